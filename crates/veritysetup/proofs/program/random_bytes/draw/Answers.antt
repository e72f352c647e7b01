use Rattle.std.proofs.Common.{rules, arith, refl, ap, ap₂, sym, ◌≡◌, ◌∙◌, ◌*◌, ◌+◌, ◌++◌, ℕ, List, take, length, add-one, take_all}
use Rattle.{std.{proofs.lemmas.Slice.{overwrites, take-put_mid}, specs.Int.bytes_low_first}, rand_core.specs.Stream.{Stream, next_u64}}
use Rattle.veritysetup.specs.Program.RandomBytes.{number_bytes}
use Rattle.veritysetup.proofs.program.random_bytes.draw.Goals as goal

more_bytes : (k : ℕ) (s t after : Stream) (xs ys : List ℕ) (w : ℕ) → xs ≡ (number_bytes k s).0 → t ≡ (number_bytes k s).1
    → (w, after) ≡ next_u64 t → ys ≡ bytes_low_first 0 8 w
    → (xs ++ ys ≡ (number_bytes (k + 1) s).0) × (after ≡ (number_bytes (k + 1) s).1)
unfolding number_bytes
more_bytes k s t after xs ys w a b e y =
    let next = e ∙ ap next_u64 b in
    rw add-one (ap₂ (λ (p q : List ℕ). p ++ q) a (y ∙ ap (λ p. bytes_low_first 0 8 p.0) next), ap (λ p. p.1) next)

pub loop-k-init : goal.loop-k-init
unfolding number_bytes
loop-k-init g c = record { long = refl; bytes = refl; stream = refl }

pub loop-k-preserved : goal.loop-k-preserved
loop-k-preserved g c =
    let step = more_bytes c.loop-k.k _ _ _ _ _ c.next_u64.result c.loop-k.invariant.bytes c.loop-k.invariant.stream c.next_u64.ensures c.to_le_bytes.ensures in
    let long : length c.copy_from_slice.new.self ≡ 8 = ap length c.copy_from_slice.ensures.after ∙ ap length c.to_le_bytes.ensures in
    record {
      long = search (rules, overwrites);
      bytes = take-put_mid (8 * c.loop-k.k) _ c.loop-k.bytes c.copy_from_slice.new.self (8 * (c.loop-k.k + 1)) (omega arith) (omega arith)
          ∙ ap (λ ys. take (8 * c.loop-k.k) c.loop-k.bytes ++ ys) c.copy_from_slice.ensures.after ∙ step.0;
      stream = step.1;
    }

pub returns : goal.returns
returns g c =
    let six : c.loop-k.k ≡ 6 = omega arith in
    let all : take 48 c.loop-k.bytes ≡ c.loop-k.bytes = take_all 48 c.loop-k.bytes (omega arith) in
    ap₂ (λ (a : List ℕ) (b : Stream). (a, b))
    (sym all ∙ ap (λ k. take (8 * k) c.loop-k.bytes) (sym six) ∙ c.loop-k.invariant.bytes ∙ ap (λ k. (number_bytes k (g.R.Rng.stream c.args.rng.now)).0) six)
    (c.loop-k.invariant.stream ∙ ap (λ k. (number_bytes k (g.R.Rng.stream c.args.rng.now)).1) six)
