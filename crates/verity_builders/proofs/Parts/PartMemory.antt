-- A builder of a part between two calls: its memory, how many levels have closed, what it hands out, and its digest.
use Rattle.std.proofs.Common.{◌≡◌, ℕ, ◌+◌, ◌-◌, ◌*◌, ◌/◌, ◌^◌, ◌<◌, ◌≤◌, false, List, [], ◌∷◌, ◌++◌, get_or, arith, drop, length, length-append}
use Rattle.std.proofs.{Common.{length-drop, map, refl, sym, take, ◌∙◌, ap, Some, None}, lemmas.{Bool.Decides.nat_tests, Nat.div_below}}
use Rattle.std.{specs.Prelude.{Err, IfOk, MatchOption, Ok, Option, Result, nat_le, nat_lt}, proofs.lemmas.List.{length-take, map-append}}
use Rattle.verity_plan.{proofs.FanLemmas.fan-some, specs.{Plans.{IsPlan, PlanFields}, PlanCounts.{level_count_of, count_under}, Settings.{fan, hash}}}
use Rattle.verity_blocks.specs.{ClosingOrder.{BlockIndex, block_index, blocks_before, handed_out}, Levels.{blocks_up, data_blocks}}
use Rattle.verity_blocks.specs.{TreeOnDevice.tree_block, declared.{closing.Progress.Progress, hash_block.HashBlock.HashBlock}}
use Rattle.verity_builders.{specs.Feeding.{IsPlacedFrom, ending_fault, given, taking_fault}, proofs.Parts.PlanOfPart.has-part}
use Rattle.verity_builders.specs.Parts.{FeedsPart, HasLastOfPart, HasPart, IsFedPart, IsHandedOutOfPart, IsPlacedOfPart, blocks_in_part}
use Rattle.verity_builders.specs.Parts.{bytes_of_part, digest_of_part, first_block, handed_out_of_part, digest_fault, piece_fault, plan_of_part}
use Rattle.verity_builders.specs.{Steps.FedTrees.{AnswersLast, FeedsFrom, IsFedTo, IsTreeIn, given_of}, declared.feed_fault.FeedFault.FeedFault}
use Rattle.verity_builders.{specs.declared.part_builder.PartBuilder.PartBuilder, proofs.Trees.TreeMemory.{closed-block, nothing-last}}
use Rattle.{verity_builders.proofs.Parts.PartLevels.{part-block, part-digest}, std.proofs.Math.Nat.one-le-pow}
use Rattle.verity_builders.proofs.Parts.PartInWhole.{handed-in_whole, in_whole, index-in_whole, part-last-below, power-split}

-- of a part that the tree has, a piece has the faults that it has above the part's data alone
pub piece-part : (b : PartBuilder) (count : ℕ) → HasPart b.plan b.level b.part
    → taking_fault (plan_of_part b.plan b.level b.part) b.level b.fed b.closed count ≡ piece_fault b count
piece-part b count has =
    let level_is : nat_lt (level_count_of b.plan) b.level ≡ false = grind (arith, nat_tests, has.level_most) in
    let part_is : nat_le (count_under b.plan b.level) b.part ≡ false = grind (arith, nat_tests, has.part_below) in
    rw (level_is, part_is) refl

pub digest-part : (b : PartBuilder) → HasPart b.plan b.level b.part
    → ending_fault (plan_of_part b.plan b.level b.part) b.level b.fed b.closed ≡ digest_fault b
digest-part b has =
    let level_is : nat_lt (level_count_of b.plan) b.level ≡ false = grind (arith, nat_tests, has.level_most) in
    let part_is : nat_le (count_under b.plan b.level) b.part ≡ false = grind (arith, nat_tests, has.part_below) in
    rw (level_is, part_is) refl

-- the tree above a part's data is in the whole tree
pub IsTreeIn-part : (p : PlanFields) (level part : ℕ) → IsPlan p → HasPart p level part
    → IsTreeIn p (plan_of_part p level part) (first_block p level part) level
IsTreeIn-part p level part planned has =
    let part_is = has-part p level part planned has in
    record {
      settings_are = refl;
      own_levels = part_is.levels_most;
      levels_most = has.level_most;
      within = omega (arith, part_is.begins);
    }

-- a builder's progress, and what was fed to it
abbrev pub progress_of_part : PartBuilder → Progress
progress_of_part b = record { fed = b.fed; closed = b.closed }

pub IsFedTo-part : (b : PartBuilder) (memory fed : List ℕ) → IsFedPart b memory fed
    → IsFedTo (plan_of_part b.plan b.level b.part) b.level (progress_of_part b) memory fed
IsFedTo-part b memory fed h = record { count = h.count; stands = h.stands }

-- a part has at most as many bytes as its plan wants
pub part-bytes-most : (p : PlanFields) (level part : ℕ) (all : List ℕ)
    → length (bytes_of_part p level part all) ≤ (plan_of_part p level part).wanted
part-bytes-most p level part all =
    let bytes = take p.wanted all in
    let size = blocks_in_part p level * p.settings.data_block in
    omega (
      arith,
      length-take size (drop (part * size) bytes),
      length-drop (part * size) bytes,
      length-take p.wanted all,
    )

-- the hash block of a part that was handed out last stands in the memory
pub IsHandedOutOfPart-last : (b : PartBuilder) (at : Progress) (memory fed : List ℕ) (block : HashBlock) → IsPlan b.plan
    → HasPart b.plan b.level b.part
    → IsPlacedFrom b.plan (first_block b.plan b.level b.part) b.level at.fed at.closed block
    → IsFedTo (plan_of_part b.plan b.level b.part) b.level at memory fed → IsHandedOutOfPart b fed memory block
IsHandedOutOfPart-last b at memory fed block planned has placed h =
    let p = b.plan in
    let s = p.settings in
    let f = fan s in
    let own = plan_of_part p b.level b.part in
    let part_is = has-part p b.level b.part planned has in
    let i = blocks_before s at.fed in
    let l = block.level in
    record {
      level_below = placed.level_below;
      at_is = placed.at_is;
      start_is = placed.start_is;
      bytes = λ all more is.
          let fits : length (fed ++ more) ≤ own.wanted =
          omega (arith, ap length is, part-bytes-most p b.level b.part all) in
          let below = (part-last-below p b.level b.part at.fed planned has
          (omega (arith, h.count, fits, length-append fed more))).0 in
          let inside : i / f ^ (l + 1) < f ^ (b.level - (l + 1)) =
          div_below i (f ^ (l + 1)) (f ^ (b.level - (l + 1))) (one-le-pow (l + 1) f (fan-some s))
          (omega (arith, below, power-split f b.level l placed.level_below)) in
          let index : b.part * f ^ (b.level - (l + 1)) + i / f ^ (l + 1) ≡ block.index =
          index-in_whole f b.level b.part i l (fan-some s) placed.level_below ∙ sym placed.index_is in
          ap (λ (n : ℕ). take s.hash_block (drop n memory)) placed.at_is
          ∙ closed-block own b.level l at memory fed more part_is.planned placed.level_is placed.level_below h fits
          ∙ ap (λ (bytes : List ℕ). tree_block s (data_blocks own bytes) l (i / f ^ (l + 1))) (sym is)
          ∙ part-block p b.level b.part (l + 1) (i / f ^ (l + 1)) all planned has
          (omega (arith, placed.level_below)) inside
          ∙ ap (tree_block s (data_blocks p all) l) index;
    }

-- the hash block that is handed out, by its number in the whole tree
given-whole : (p : PlanFields) (level part : ℕ) (after : Progress) (hash_block : Option HashBlock)
    → ((block : HashBlock) → hash_block ≡ Some block
    → IsPlacedFrom p (first_block p level part) level after.fed after.closed block)
    → map (in_whole (fan p.settings) level part) (given_of (plan_of_part p level part) after hash_block)
    ≡ given hash_block
given-whole p level part after None placed = refl
given-whole p level part after (Some block) placed =
    let f = fan p.settings in
    let i = blocks_before p.settings after.fed in
    let at = placed block refl in
    let last : after.closed - 1 ≡ block.level = omega (arith, at.level_is) in
    let index = index-in_whole f level part i block.level (fan-some p.settings) at.level_below ∙ sym at.index_is in
    rw last (ap (λ (n : ℕ). block_index block.level n ∷ []) index)

-- what a call that feeds a builder leaves
pub FeedsPart-of : (b : PartBuilder) (after : Progress) (fed more memory : List ℕ) (hash_block : Option HashBlock)
    → IsPlan b.plan → HasPart b.plan b.level b.part → length fed ≡ b.fed
    → FeedsFrom (plan_of_part b.plan b.level b.part) b.level (progress_of_part b) after fed more memory hash_block
    → ((block : HashBlock) → hash_block ≡ Some block
    → IsPlacedFrom b.plan (first_block b.plan b.level b.part) b.level after.fed after.closed block)
    → FeedsPart b
    (record { plan = b.plan; level = b.level; part = b.part; fed = after.fed; closed = after.closed }) fed more memory
    hash_block
FeedsPart-of b after fed more memory hash_block planned has count h placed =
    let p = b.plan in
    let own = plan_of_part p b.level b.part in
    let to_whole = in_whole (fan p.settings) b.level b.part in
    let out = given_of own after hash_block in
    record {
      is_fed = record { part = has; count = h.is_fed.count; stands = h.is_fed.stands };
      order = sym (handed-in_whole p b.level b.part after.fed after.closed planned has h.fed_most h.has_closed)
          ∙ ap (map to_whole) h.order
          ∙ map-append to_whole (handed_out own b.fed b.closed) out
          ∙ ap (λ (xs : List BlockIndex). xs ++ map to_whole out)
          (handed-in_whole p b.level b.part b.fed b.closed planned has
          (omega (arith, count, h.is_fed.count, h.fed_most, length-append fed more)) h.had_closed)
          ∙ ap (λ (xs : List BlockIndex). handed_out_of_part p b.level b.part b.fed b.closed ++ xs)
          (given-whole p b.level b.part after hash_block placed);
      stands = λ block is.
          IsHandedOutOfPart-last b after memory (fed ++ more) block planned has (placed block is) h.is_fed;
    }

-- and what is said of the hash block that was handed out last
pub part-placed-last : (b : PartBuilder) (last : Result (Option HashBlock) FeedFault) → HasPart b.plan b.level b.part
    → AnswersLast b.plan (plan_of_part b.plan b.level b.part) (first_block b.plan b.level b.part) b.level
    (progress_of_part b) last
    → IfOk last (λ found. MatchOption found (HasLastOfPart b → ⊥) (λ block. HasLastOfPart b × IsPlacedOfPart b block))
part-placed-last b (Err fault) has h = tt
part-placed-last b (Ok None) has h = λ is. h is.some is.closed
part-placed-last b (Ok (Some block)) has h = (
  record { part = has; some = h.some; most = h.most; closed = h.closed; levels = h.few },
  h.placed,
)

pub part-stands-last : (b : PartBuilder) (last : Result (Option HashBlock) FeedFault) (memory fed : List ℕ)
    → IsPlan b.plan
    → AnswersLast b.plan (plan_of_part b.plan b.level b.part) (first_block b.plan b.level b.part) b.level
    (progress_of_part b) last → IsFedPart b memory fed
    → IfOk last (λ found. MatchOption found (b.closed ≡ 0) (λ block. IsHandedOutOfPart b fed memory block))
part-stands-last b (Err fault) memory fed planned h is = tt
part-stands-last b (Ok None) memory fed planned h is =
    nothing-last _ _ b.closed fed _ _ (λ some. h (omega (arith, some, is.count))) is.stands
part-stands-last b (Ok (Some block)) memory fed planned h is =
    IsHandedOutOfPart-last b (progress_of_part b) memory fed block planned is.part h.placed
    (IsFedTo-part b memory fed is)

-- the digest above all of a part's data is the part's
pub own-digest : (p : PlanFields) (level part : ℕ) (fed all : List ℕ) → IsPlan p → HasPart p level part
    → bytes_of_part p level part all ≡ fed
    → hash p.settings (get_or (blocks_up p.settings (data_blocks (plan_of_part p level part) fed) level) 0 [])
    ≡ digest_of_part p level part all
own-digest p level part fed all planned has is = rw (← is) (part-digest p level part all planned has)
