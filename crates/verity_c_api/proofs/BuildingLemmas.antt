-- What a builder has answered is what the library for C says of it.
use Rattle.std.proofs.Common.{◌≡◌, ◌≢◌, ◌<◌, ◌≤◌, ◌+◌, ◌*◌, ℕ, Bool, true, false, List, [], ◌∷◌, ◌++◌, Some, None, Ok, if◌then◌else◌, arith, ap, refl}
use Rattle.{verity_plan.specs.{Plans.PlanFields, PlanCounts.level_count_of, Settings.TreeSettingsFields}, std.proofs.Common.{rules, subst, ◌∙◌}}
use Rattle.{verity_blocks.specs.{ClosingOrder.block_index, declared.hash_block.HashBlock.HashBlock}, std.proofs.lemmas.Bool.Decides.nat_tests}
use Rattle.verity_builders.specs.{Feeding.{Feeds, IsFed, IsFedFile, Takes, given}, declared.file_builder.FileBuilder.FileBuilder}
use Rattle.{verity_builders.specs.declared.tree_builder.{Fed.Fed, TreeBuilder.TreeBuilder}, std.specs.Prelude.◌==◌}
use Rattle.verity_c_api.proofs.{AnswerLemmas.{list-said, says-of, within-said}, ParameterLemmas.{one_value, tree_of_sized}}
use Rattle.verity_c_api.specs.Building.{HandsOut, IsFedFileTo, IsFedTo, TakesPiece, block_of, builder_of, fed_of, file_builder_of, given_by}
use Rattle.verity_c_api.specs.{BuildingLoop.hash_block_by, Parameters.{fsverity_tree_of, plan_of}, declared.build.VerityBuild.VerityBuild}
use Rattle.verity_c_api.specs.declared.{build.VerityFed.VerityFed, parameters.{FsverityParams.FsverityParams, VerityParams.VerityParams}}

-- a builder of a plan is that of the plan and its two numbers
pub builder_of-parts : (p : PlanFields) (b : TreeBuilder) → b.plan ≡ p
    → b ≡ builder_of p (record { fed = b.fed; closed = b.closed })
builder_of-parts p b is = ap (λ (q : PlanFields). builder_of q (record { fed = b.fed; closed = b.closed })) is

pub file_builder_of-parts : (s : TreeSettingsFields) (b : FileBuilder) → b.settings ≡ s → b ≡ file_builder_of s b.fed
file_builder_of-parts s b is = ap (λ (t : TreeSettingsFields). file_builder_of t b.fed) is

-- what was fed to the tree of parameters was fed to the builder of the plan that they make, and the other way round
pub IsFedTo-at : (params : VerityParams) (p : PlanFields) (build : VerityBuild) (memory fed : List ℕ)
    → plan_of params ≡ Ok p
    → IsFedTo params build memory fed → IsFed (builder_of p build) memory fed
IsFedTo-at params p build memory fed made h =
    let same : h.plan ≡ p = one_value (plan_of params) h.plan p h.planned made in
    subst (λ (q : PlanFields). IsFed (builder_of q build) memory fed) same h.is_fed

pub IsFedTo-of : (params : VerityParams) (p : PlanFields) (b : TreeBuilder) (memory fed : List ℕ)
    → plan_of params ≡ Ok p
    → b.plan ≡ p → IsFed b memory fed → IsFedTo params (record { fed = b.fed; closed = b.closed }) memory fed
IsFedTo-of params p b memory fed made is h = record {
  plan = p;
  planned = made;
  is_fed = subst (λ (a : TreeBuilder). IsFed a memory fed) (builder_of-parts p b is) h;
}

pub IsFedFileTo-at : (params : FsverityParams) (s : TreeSettingsFields) (memory fed : List ℕ)
    → fsverity_tree_of params ≡ Ok s → IsFedFileTo params memory fed
    → IsFedFile (file_builder_of s params.size) memory fed
IsFedFileTo-at params s memory fed made h =
    let same : h.tree ≡ s = one_value (fsverity_tree_of params) h.tree s h.made made in
    subst (λ (t : TreeSettingsFields). IsFedFile (file_builder_of t params.size) memory fed) same h.is_fed

pub IsFedFileTo-of : (params : FsverityParams) (s : TreeSettingsFields) (b : FileBuilder) (memory fed : List ℕ)
    → fsverity_tree_of params ≡ Ok s → b.settings ≡ s → IsFedFile b memory fed
    → IsFedFileTo (record params { size = b.fed }) memory fed
IsFedFileTo-of params s b memory fed made is h = record {
  tree = s;
  made = tree_of_sized params b.fed ∙ made;
  is_fed = subst (λ (a : FileBuilder). IsFedFile a memory fed) (file_builder_of-parts s b is) h;
}

-- how much of a piece was taken, in the numbers of the struct
pub TakesPiece-by : (p : PlanFields) (before : VerityBuild) (after : TreeBuilder) (count : ℕ) (answer : Fed)
    (fed : VerityFed) → fed ≡ fed_of p answer → 0 < p.settings.hash_block
    → Takes (builder_of p before) after count answer
    → TakesPiece p before (record { fed = after.fed; closed = after.closed }) count fed
TakesPiece-by p before after count answer fed is some h =
    let said = says-of p answer fed is some in
    let within : fed.block_at + fed.block_length ≤ level_count_of p * p.settings.hash_block =
    within-said fed.block_level (level_count_of p) said
    (λ block. let placed = h.placed (block_of fed) (said.some block) in (placed.level_below, placed.at_is)) in
    let waits = h.waits (block_of fed) in
    let rises = h.rises (block_of fed) in
    search (rules, said.taken_is, said.none, said.some, h.all, h.done, h.placed, waits, rises)

-- the hash block that is handed out, in the numbers of the struct
pub HandsOut-by : (p : PlanFields) (before : VerityBuild) (after : TreeBuilder) (bytes more memory : List ℕ)
    (answer : Fed) (fed : VerityFed) → fed ≡ fed_of p answer → 0 < p.settings.hash_block
    → Feeds (builder_of p before) after bytes more memory answer.hash_block
    → HandsOut p before (record { fed = after.fed; closed = after.closed }) (bytes ++ more) memory fed
HandsOut-by p before after bytes more memory answer fed is some h =
    let said = says-of p answer fed is some in
    search (rules, list-said given said refl refl, said.some, h.order, h.stands (block_of fed))

-- the hash block that a struct hands out, in a list of its own and by itself
pub given-by : (fed : VerityFed) → given (hash_block_by fed) ≡ given_by fed
given-by fed = by_test (fed.block_length == 0)
  where
    by_test : (none : Bool) → given (if none then None else Some (block_of fed))
        ≡ (if none then [] else block_index fed.block_level fed.block_index ∷ [])
    by_test true = refl
    by_test false = refl

pub handed-by : (fed : VerityFed) (holds : HashBlock → Type 0) → (fed.block_length ≢ 0 → holds (block_of fed))
    → (block : HashBlock) → hash_block_by fed ≡ Some block → holds block
handed-by fed holds stands block is = by_test (fed.block_length == 0) refl is
  where
    by_test : (none : Bool) → (fed.block_length == 0) ≡ none
        → (if none then None else Some (block_of fed)) ≡ Some block → holds block
    by_test true test e = absurd cc
    by_test false test e =
        let some : 0 < fed.block_length = grind (arith, nat_tests, test) in
        let same : block_of fed ≡ block = cc in
        subst holds same (stands (λ zero. absurd (omega (arith, some, zero))))
