-- What the builder of a part has answered is what the library for C says of it.
use Rattle.{std.proofs.Common.{◌≡◌, ◌≢◌, ◌<◌, ◌≤◌, ◌+◌, ◌*◌, ℕ, List, ◌++◌, Result, Ok, ap, refl, rules}, verity_plan.specs.Plans.PlanFields}
use Rattle.verity_builders.specs.{declared.{part_builder.PartBuilder.PartBuilder, tree_builder.Fed.Fed}, Feeding.given}
use Rattle.{verity_builders.specs.Parts.{FeedsPart, IsFedPart, IsPlacedOfPart, TakesOfPart}, verity_c_api.specs.declared.build.VerityFed.VerityFed}
use Rattle.verity_c_api.specs.{Building.{block_of, fed_of}, Parts.{HandsOutOfPart, IsFedPartTo, TakesPartPiece, part_builder_of}}
use Rattle.verity_c_api.{proofs.AnswerLemmas.{list-said, says-of, within-said}, specs.declared.{build.VerityPart.VerityPart, fault.Fault.Fault}}

-- the numbers of a builder, of which with its plan it is made
abbrev pub part_of : PartBuilder → VerityPart
part_of b = record { level = b.level; part = b.part; fed = b.fed; closed = b.closed }

part_builder_of-parts : (p : PlanFields) (b : PartBuilder) → b.plan ≡ p → b ≡ part_builder_of p (part_of b)
part_builder_of-parts p b is = ap (λ (q : PlanFields). part_builder_of q (part_of b)) is

-- what was fed to a part of a plan's tree was fed to its builder, and the other way round
pub IsFedPartTo-at : (plan : Result PlanFields Fault) (p : PlanFields) (part : VerityPart) (b : PartBuilder)
    (memory fed : List ℕ) → plan ≡ Ok p → b ≡ part_builder_of p part → IsFedPartTo plan part memory fed
    → IsFedPart b memory fed
IsFedPartTo-at plan p part b memory fed made says h = rw says (rw made at h)

pub IsFedPartTo-of : (plan : Result PlanFields Fault) (p : PlanFields) (b : PartBuilder) (memory fed : List ℕ)
    → plan ≡ Ok p → b.plan ≡ p → IsFedPart b memory fed → IsFedPartTo plan (part_of b) memory fed
IsFedPartTo-of plan p b memory fed made is h = rw made (rw (part_builder_of-parts p b is) at h)

-- how much of a piece was taken, in the numbers of the struct
pub TakesPartPiece-by : (p : PlanFields) (part : VerityPart) (before after : PartBuilder) (count : ℕ) (answer : Fed)
    (fed : VerityFed) → before ≡ part_builder_of p part → fed ≡ fed_of p answer → 0 < p.settings.hash_block
    → TakesOfPart before after count answer → TakesPartPiece p part (part_of after) count fed
TakesPartPiece-by p part before after count answer fed says is some h =
    let said = says-of p answer fed is some in
    let takes : TakesOfPart (part_builder_of p part) after count answer = rw says at h in
    let block = block_of fed in
    let placed : fed.block_length ≢ 0 → IsPlacedOfPart (part_builder_of p (part_of after)) block =
    λ some. rw (part_builder_of-parts p after takes.plan_is) at (takes.placed block (said.some some)) in
    let within : fed.block_at + fed.block_length ≤ part.level * p.settings.hash_block = rw (← takes.level_is)
    (within-said fed.block_level after.level said
    (λ some. ((placed some).level_below, (placed some).at_is))) in
    let rises = takes.rises block in
    search (rules, said.taken_is, said.none, said.some, takes.all, takes.done, placed, takes.waits block, rises)

-- the hash block that is handed out, in the numbers of the struct
pub HandsOutOfPart-by : (p : PlanFields) (part : VerityPart) (before after : PartBuilder) (bytes more memory : List ℕ)
    (answer : Fed) (fed : VerityFed) → before ≡ part_builder_of p part → fed ≡ fed_of p answer
    → 0 < p.settings.hash_block → FeedsPart before after bytes more memory answer.hash_block
    → HandsOutOfPart p part (part_of after) (bytes ++ more) memory fed
HandsOutOfPart-by p part before after bytes more memory answer fed says is some h =
    let said = says-of p answer fed is some in
    let feeds : FeedsPart (part_builder_of p part) after bytes more memory answer.hash_block = rw says at h in
    search (rules, list-said given said refl refl, said.some, feeds.order, feeds.stands (block_of fed))
