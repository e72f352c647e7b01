-- The bytes of n whole blocks make n blocks.
use Rattle.{std.{proofs.Common.{◌≡◌, ℕ, ◌*◌, sym, ◌∙◌, ap}, specs.Int.div_ceil}, verity_plan.proofs.{CountLemmas.div_ceil-mul, FanLemmas.some_data}}
use Rattle.verity_plan.proofs.plan.Plan.for_blocks.Goals as goal

pub try_new-requires : goal.try_new-requires
try_new-requires c =
    let s = c.args.settings.now in
    let wide : c.from.result ≡ s.data_block = c.from.ensures ∙ c.data_block.ensures.value in
    let told = c.in-Some.ensures in
    let product : c.in-Some.wanted ≡ c.args.blocks * s.data_block = told.1 ∙ ap (λ (n : ℕ). c.args.blocks * n) wide in
    sym (ap (λ (n : ℕ). div_ceil n s.data_block) product
    ∙ div_ceil-mul c.args.blocks s.data_block (some_data s c.data_block.ensures.valid))
