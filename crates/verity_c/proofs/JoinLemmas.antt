-- What the builder of a join has answered is what the library for C says of it.
use Rattle.std.proofs.Common.{◌≡◌, ◌≢◌, ◌∙◌, ◌<◌, ◌≤◌, ◌+◌, ◌-◌, ◌^◌, ℕ, false, true, List, Option, Some, None, Result, Ok, arith, ap, inl, inr, refl}
use Rattle.std.proofs.{Common.{rules, subst, sym}, Math.Nat.{one-le-pow, zero-div, zero-mod}, lemmas.Bool.{Decides.nat_tests, cases_lt}}
use Rattle.{std.specs.Prelude.{◌==◌, ◌||◌, ◌*◌, ◌/◌, ◌%◌, MatchOption}, verity_builders.specs.declared.tree_builder.Fed.Fed}
use Rattle.verity_builders.specs.{Feeding.given, declared.{join_builder.JoinBuilder.JoinBuilder, part_builder.PartFault.PartFault}}
use Rattle.verity_builders.specs.Parts.{AreDigests, IsJoined, IsPlacedOfJoin, Joins, TakesOfJoin, HasLastOfJoin, digests_fault, part_fault}
use Rattle.verity_plan.specs.{Plans.{IsPlan, PlanFields, start_byte_of}, PlanCounts.{level_count_of, count_under}, Settings.{digest_len, fan}}
use Rattle.verity_plan.proofs.{CountLemmas.div_ceil-pos, FanLemmas.fan-some, PlanLemmas.blocks-some}
use Rattle.{verity_blocks.specs.declared.hash_block.HashBlock.HashBlock, verity_c_api.proofs.AnswerLemmas.{list-said, says-of, within-said}}
use Rattle.verity_c_api.specs.{Building.{block_of, fed_by, fed_of}, Parts.{last_of_join_in, with_digests, with_parts}, Answers.value_or}
use Rattle.verity_c_api.specs.Parts.{AreNextDigests, HandsOutOfJoin, IsJoinedTo, TakesDigests, join_builder_of, last_index_of_join, last_of_join}
use Rattle.verity_c_api.specs.declared.{build.{VerityFed.VerityFed, VerityJoin.VerityJoin}, fault.Fault.Fault}

-- the numbers of a builder, of which with its plan it is made
abbrev pub join_of : JoinBuilder → VerityJoin
join_of b = record { level = b.level; taken = b.taken; closed = b.closed }

join_builder_of-parts : (p : PlanFields) (b : JoinBuilder) → b.plan ≡ p → b ≡ join_builder_of p (join_of b)
join_builder_of-parts p b is = ap (λ (q : PlanFields). join_builder_of q (join_of b)) is

-- a level that the tree has, and the one above the top, has a part
pub no-part_fault : (p : PlanFields) (level : ℕ) (fault : PartFault) → IsPlan p → level ≤ level_count_of p
    → part_fault p level 0 ≡ Some fault → ⊥
no-part_fault p level fault planned low is =
    let some = div_ceil-pos p.blocks (fan p.settings ^ level)
    (one-le-pow level (fan p.settings) (fan-some p.settings))
    (blocks-some p planned) in
    grind (arith, nat_tests, some, low, is)

-- what was joined by a struct was joined by its builder, and the other way round
pub IsJoinedTo-at : (plan : Result PlanFields Fault) (p : PlanFields) (join : VerityJoin) (b : JoinBuilder)
    (memory bytes : List ℕ) → plan ≡ Ok p → b ≡ join_builder_of p join → IsJoinedTo plan join memory bytes
    → IsJoined b memory bytes
IsJoinedTo-at plan p join b memory bytes made says h = rw says (rw made at h)

pub IsJoinedTo-of : (plan : Result PlanFields Fault) (p : PlanFields) (b : JoinBuilder) (memory bytes : List ℕ)
    → plan ≡ Ok p → b.plan ≡ p → IsJoined b memory bytes → IsJoinedTo plan (join_of b) memory bytes
IsJoinedTo-of plan p b memory bytes made is h = rw made (rw (join_builder_of-parts p b is) at h)

-- the digests that come next, by the builder
pub AreNextDigests-at : (plan : Result PlanFields Fault) (p : PlanFields) (join : VerityJoin) (b : JoinBuilder)
    (digests bytes : List ℕ) → plan ≡ Ok p → b ≡ join_builder_of p join → AreNextDigests plan join digests bytes
    → AreDigests b.plan b.level b.taken digests bytes
AreNextDigests-at plan p join b digests bytes made says h = rw says (rw made at h)

-- how many digests were taken, in the numbers of the struct
pub TakesDigests-by : (p : PlanFields) (join : VerityJoin) (before after : JoinBuilder) (count : ℕ) (answer : Fed)
    (fed : VerityFed) → before ≡ join_builder_of p join → fed ≡ fed_of p answer → 0 < p.settings.hash_block
    → TakesOfJoin before after count answer → TakesDigests p join (join_of after) count fed
TakesDigests-by p join before after count answer fed says is some h =
    let said = says-of p answer fed is some in
    let takes : TakesOfJoin (join_builder_of p join) after count answer = rw says at h in
    let block = block_of fed in
    let placed : fed.block_length ≢ 0 → IsPlacedOfJoin (join_builder_of p (join_of after)) block =
    λ some. rw (join_builder_of-parts p after takes.plan_is) at (takes.placed block (said.some some)) in
    let within : fed.block_at + fed.block_length ≤ (level_count_of p - join.level) * p.settings.hash_block =
    rw (← takes.level_is) (within-said (fed.block_level - after.level) (level_count_of p - after.level) said
    (λ some. let at = placed some in (omega (arith, at.level_below, at.level_least), at.at_is))) in
    let rises : fed.block_length ≢ 0 → fed.taken ≡ 0 → after.closed ≡ join.closed + 1 =
    λ some. rw said.taken_is (takes.rises block (said.some some)) in
    search (rules, said.taken_is, said.none, said.some, takes.all, takes.done, placed, rises)

-- the hash block that is handed out, in the numbers of the struct
pub HandsOutOfJoin-by : (p : PlanFields) (join : VerityJoin) (before after : JoinBuilder) (bytes memory : List ℕ)
    (answer : Fed) (fed : VerityFed) → before ≡ join_builder_of p join → fed ≡ fed_of p answer
    → 0 < p.settings.hash_block → Joins before after bytes memory answer.hash_block
    → HandsOutOfJoin p join (join_of after) bytes memory fed
HandsOutOfJoin-by p join before after bytes memory answer fed says is some h =
    let said = says-of p answer fed is some in
    let joins : Joins (join_builder_of p join) after bytes memory answer.hash_block = rw says at h in
    search (rules, list-said given said refl refl, said.some, joins.order, joins.stands (block_of fed))

-- what a struct names last, by the numbers of the hash block that its builder names
last_of_join-placed : (p : PlanFields) (join : VerityJoin) (answer : Option HashBlock)
    → join.taken ≤ count_under p join.level → join.level + join.closed ≤ level_count_of p
    → MatchOption answer (HasLastOfJoin (join_builder_of p join) → ⊥)
    (λ block. HasLastOfJoin (join_builder_of p join) × IsPlacedOfJoin (join_builder_of p join) block)
    → fed_by p.settings.hash_block 0 answer ≡ last_of_join p join
last_of_join-placed p join None few low none = elim (cases_lt 0 join.taken) [
  | inl some ↦ elim (cases_lt 0 join.closed) [
    | inl closed ↦ absurd (none (record { some = some; most = few; closed = closed; levels = low }))
    | inr unclosed ↦
        let test : ((join.taken == 0) || (join.closed == 0)) ≡ true = grind (arith, nat_tests, unclosed) in rw test refl
  ]
  | inr nothing ↦
      let test : ((join.taken == 0) || (join.closed == 0)) ≡ true = grind (arith, nat_tests, nothing) in rw test refl
]
last_of_join-placed p join (Some block) few low named =
    let has = named.0 in
    let placed = named.1 in
    let size = p.settings.hash_block in
    let test : ((join.taken == 0) || (join.closed == 0)) ≡ false = grind (arith, nat_tests, has.some, has.closed) in
    let level : block.level ≡ join.level + join.closed - 1 = omega (arith, placed.level_is) in
    let own : block.level - join.level ≡ join.closed - 1 = omega (arith, placed.level_is) in
    let at : block.at ≡ (join.closed - 1) * size = placed.at_is ∙ ap (λ (n : ℕ). n * size) own in
    let index : block.index ≡ last_index_of_join p join = placed.index_is in
    let start : block.start ≡ start_byte_of p (join.level + join.closed - 1) (last_index_of_join p join) =
    placed.start_is ∙ ap (λ (l : ℕ). start_byte_of p l block.index) level
    ∙ ap (λ (j : ℕ). start_byte_of p (join.level + join.closed - 1) j) index in
    rw (test, at, start, index, level) refl

-- the same of the plan that parameters make, if the numbers have no fault
pub last_of_join-at : (plan : Result PlanFields Fault) (p : PlanFields) (join : VerityJoin) (b : JoinBuilder)
    (answer : Option HashBlock) (old fed : VerityFed) → with_parts plan join.level ≡ Ok p → b ≡ join_builder_of p join
    → fed ≡ fed_of p (record { taken = 0; hash_block = answer }) → None ≡ digests_fault b 0
    → MatchOption answer (HasLastOfJoin b → ⊥) (λ block. HasLastOfJoin b × IsPlacedOfJoin b block)
    → fed ≡ value_or old (last_of_join_in (with_digests (with_parts plan join.level) join 0) join)
last_of_join-at plan p join b answer old fed made says is right named =
    let none : None ≡ digests_fault (join_builder_of p join) 0 =
    right ∙ ap (λ (a : JoinBuilder). digests_fault a 0) says in
    let zero : 0 / digest_len p.settings ≡ 0 = zero-div (digest_len p.settings) in
    let whole : (0 % digest_len p.settings == 0) ≡ true =
    rw (zero-mod (digest_len p.settings)) (grind (arith, nat_tests)) in
    let taken : with_digests (Ok p) join 0 ≡ Ok p = rw (whole, ← none) refl in
    is
    ∙ last_of_join-placed p join answer (grind (arith, nat_tests, none, zero)) (grind (arith, nat_tests, none))
    (subst (λ (a : JoinBuilder). MatchOption answer (HasLastOfJoin a → ⊥)
    (λ block. HasLastOfJoin a × IsPlacedOfJoin a block)) says named)
    ∙ sym (ap (λ (r : Result PlanFields Fault). value_or old (last_of_join_in r join))
    (ap (λ (r : Result PlanFields Fault). with_digests r join 0) made ∙ taken))
