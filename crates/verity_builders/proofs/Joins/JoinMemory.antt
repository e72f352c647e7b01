-- The memory of a join between two calls: its open blocks, and the digest that came last.
use Rattle.std.proofs.Common.{◌≡◌, ℕ, ◌+◌, ◌-◌, ◌*◌, ◌/◌, ◌^◌, ◌<◌, ◌≤◌, List, [], ◌∷◌, ◌++◌, get_or, length, take, drop, arith, refl, sym, ◌∙◌, ap}
use Rattle.std.proofs.{Common.{map, Bool, true, false, Some, None, length-drop}, lemmas.List.{append-nil, map-append, take_all}}
use Rattle.{std.proofs.Math.Nat.div-eq_of_lt, verity_blocks.proofs.OpenBlocks.DigestsInTurn.{range-is_run, index-first}}
use Rattle.verity_blocks.specs.{Steps.OpenBlocks.{HasClosed, level_digest}, TreeOnDevice.tree_block, ClosingOrder.{BlockIndex, block_index}}
use Rattle.verity_blocks.specs.{Levels.{blocks_up, data_blocks, height, root}, declared.hash_block.HashBlock.HashBlock}
use Rattle.verity_blocks.proofs.{ClosingSteps.Climbing.blocks-most, Levels.{CutBlocks.length-cut, LevelCounts.height-level_count}}
use Rattle.verity_plan.specs.{Plans.{IsPlan, PlanFields, level_count}, PlanCounts.{level_count_of, count_under}}
use Rattle.verity_plan.{specs.Settings.{TreeSettingsFields, fan, hash}, proofs.FanLemmas.{fan-some, fan-two}}
use Rattle.verity_builders.specs.{Feeding.open_blocks, Steps.Parts.{HasDigests, JoinStands, JoinsOn, handed_out_above, plan_of_join}}
use Rattle.verity_builders.specs.Parts.{AreDigests, IsHandedOutOfJoin, IsJoined, IsPlacedOfJoin, Joins, blocks_under, handed_out_of_join}
use Rattle.verity_builders.{specs.declared.join_builder.JoinBuilder.JoinBuilder, proofs.Trees.TreeMemory.{open_block-within, joined}}
use Rattle.verity_builders.proofs.Joins.{JoinDigests.JoinStands-closed, JoinInOrder.{handed-out-raised, raised}}
use Rattle.verity_builders.proofs.Joins.PlanOfJoin.{IsPlan-join, blocks_up-up, length-under, levels-of_join, parts-some}

-- a hash block of the join's own tree is one of the whole
pub tree_block-up : (s : TreeSettingsFields) (xs : List (List ℕ)) (m l level j : ℕ) → m + (l + 1) ≡ level + 1
    → tree_block s (blocks_up s xs m) l j ≡ tree_block s xs level j
tree_block-up s xs m l level j is =
    ap (λ (bs : List (List ℕ)). get_or bs j []) (blocks_up-up s xs m (l + 1) ∙ ap (blocks_up s xs) is)

-- the hash block that was handed out last stands in the memory
pub IsHandedOutOfJoin-last : (b : JoinBuilder) (memory bytes : List ℕ) (block : HashBlock) → 0 < b.closed
    → IsPlacedOfJoin b block → IsJoined b memory bytes → IsHandedOutOfJoin b bytes memory block
IsHandedOutOfJoin-last b memory bytes block some placed h =
    let p = b.plan in
    let s = p.settings in
    let levels = level_count_of p - b.level in
    let l = b.closed - 1 in
    let own : block.level - b.level ≡ l = omega (arith, placed.level_is, some) in
    let up : l + 1 ≡ b.closed = omega (arith, some) in
    let out = JoinStands-closed s (blocks_under p b.level bytes) levels b.taken b.closed
    (open_blocks s levels memory) _ some h in
    record {
      level_below = placed.level_below;
      at_is = placed.at_is;
      start_is = placed.start_is;
      stands =
          ap (λ (n : ℕ). take s.hash_block (drop n memory)) (placed.at_is ∙ ap (λ (n : ℕ). n * s.hash_block) own)
          ∙ sym (open_block-within s.hash_block l levels memory
          (omega (arith, up, placed.level_below, placed.level_is)))
          ∙ out.stands
          ∙ tree_block-up s (data_blocks p bytes) b.level l block.level ((b.taken - 1) / fan s ^ (l + 1))
          (omega (arith, up, placed.level_is))
          ∙ ap (tree_block s (data_blocks p bytes) block.level)
          (ap (λ (n : ℕ). (b.taken - 1) / fan s ^ n) up ∙ sym placed.index_is);
    }

-- the digests stand in the two parts of the memory
pub IsJoined-parted : (b : JoinBuilder) (n : ℕ) (memory opened last bytes : List ℕ)
    → n ≡ (level_count_of b.plan - b.level) * b.plan.settings.hash_block → opened ≡ take n memory → last ≡ drop n memory
    → IsJoined b memory bytes
    → JoinStands b.plan.settings (blocks_under b.plan b.level bytes)
    (level_count_of b.plan - b.level) b.taken b.closed opened last
IsJoined-parted b n memory opened last bytes same front back h = rw (front, back, same) h

-- the bytes are digests of the blocks below the level
pub HasDigests-parts : (p : PlanFields) (level from : ℕ) (digests bytes : List ℕ)
    → AreDigests p level from digests bytes
    → HasDigests p.settings (blocks_under p level bytes) from digests
unfolding blocks_up
HasDigests-parts p level from digests bytes h = λ k low.
    h k low
    ∙ ap (λ (i : ℕ). hash p.settings (get_or (blocks_under p level bytes) i []))
    (index-first (from + k) (fan p.settings))

-- digests were joined, and the memory stands in two parts
pub record HasJoinedOn (b : JoinBuilder) (taken closed : ℕ) (bytes : List ℕ) (closes : Bool)
    (opened last : List ℕ) : Type 0 where
  pub planned : IsPlan b.plan
  pub level_most : b.level ≤ level_count_of b.plan
  pub taken_most : b.taken ≤ count_under b.plan b.level
  pub size : length opened ≡ (level_count_of b.plan - b.level) * b.plan.settings.hash_block
  pub on : JoinsOn b.plan.settings (blocks_under b.plan b.level bytes) (level_count_of b.plan - b.level) b.taken
      b.closed closes taken closed opened last

-- the memory is put together
IsJoined-joined : (b : JoinBuilder) (taken closed : ℕ) (bytes : List ℕ) (closes : Bool) (opened last : List ℕ)
    → HasJoinedOn b taken closed bytes closes opened last
    → IsJoined (record { plan = b.plan; level = b.level; taken = taken; closed = closed }) (opened ++ last) bytes
IsJoined-joined b taken closed bytes closes opened last h =
    joined (JoinStands b.plan.settings (blocks_under b.plan b.level bytes)
    (level_count_of b.plan - b.level) taken closed)
    ((level_count_of b.plan - b.level) * b.plan.settings.hash_block) opened last h.size h.on.stands

-- what was handed out before and after, by the join's own tree
handed-out-both : (b : JoinBuilder) (taken closed : ℕ) (bytes : List ℕ) (closes : Bool) (opened last : List ℕ)
    → HasJoinedOn b taken closed bytes closes opened last
    → (handed_out_of_join b.plan b.level taken closed
    ≡ map (raised b.level) (handed_out_above (fan b.plan.settings) (count_under b.plan b.level) taken closed))
    × (handed_out_of_join b.plan b.level b.taken b.closed
    ≡ map (raised b.level) (handed_out_above (fan b.plan.settings) (count_under b.plan b.level) b.taken b.closed))
handed-out-both b taken closed bytes closes opened last h =
    let p = b.plan in
    let two = fan-two p.settings h.planned.valid in
    let some = parts-some p b.level h.planned in (
      handed-out-raised p b.level taken closed two h.level_most some
          (omega (arith, h.on.stands.taken_most, length-under p b.level bytes)),
      handed-out-raised p b.level b.taken b.closed two h.level_most some h.taken_most,
    )

-- after a call without a hash block that has closed
pub Joins-none : (before : JoinBuilder) (taken closed : ℕ) (bytes opened last : List ℕ)
    → HasJoinedOn before taken closed bytes false opened last
    → Joins before (record { plan = before.plan; level = before.level; taken = taken; closed = closed }) bytes
    (opened ++ last)
    None
Joins-none before taken closed bytes opened last h =
    let p = before.plan in
    let many = length-under p before.level bytes in
    let both = handed-out-both before taken closed bytes false opened last h in
    record {
      is_joined = IsJoined-joined before taken closed bytes false opened last h;
      order = both.0 ∙ ap (map (raised before.level)) (rw many at h.on.order) ∙ sym both.1 ∙ sym (append-nil _);
      stands = λ block is. absurd cc;
    }

-- and after one with it
pub Joins-some : (before : JoinBuilder) (taken closed : ℕ) (bytes opened last : List ℕ) (block : HashBlock)
    → HasJoinedOn before taken closed bytes true opened last → 0 < closed
    → IsPlacedOfJoin (record { plan = before.plan; level = before.level; taken = taken; closed = closed }) block
    → Joins before (record { plan = before.plan; level = before.level; taken = taken; closed = closed }) bytes
    (opened ++ last)
    (Some block)
Joins-some before taken closed bytes opened last block h some placed =
    let p = before.plan in
    let many = length-under p before.level bytes in
    let both = handed-out-both before taken closed bytes true opened last h in
    let is_joined = IsJoined-joined before taken closed bytes true opened last h in
    let level : before.level + (closed - 1) ≡ block.level = omega (arith, placed.level_is, some) in
    record {
      is_joined = is_joined;
      order = both.0 ∙ ap (map (raised before.level)) (rw many at h.on.order)
          ∙ map-append (raised before.level)
          (handed_out_above (fan p.settings) (count_under p before.level) before.taken
          before.closed) _
          ∙ ap (λ (bs : List BlockIndex). bs ++ block_index (before.level + (closed - 1))
          ((taken - 1) / fan p.settings ^ closed) ∷ []) (sym both.1)
          ∙ rw (level, placed.index_is) refl;
      stands = λ other is.
          let same : block ≡ other = cc in
          let last_one = IsHandedOutOfJoin-last
          (record { plan = p; level = before.level; taken = taken; closed = closed }) (opened ++ last) bytes block some
          placed is_joined in
          rw (← same) (record {
            level_below = last_one.level_below;
            at_is = last_one.at_is;
            start_is = last_one.start_is;
            stands = last_one.stands;
          });
    }

-- above the last part of all stands the root
pub join-root : (p : PlanFields) (level levels : ℕ) (bytes : List ℕ) → IsPlan p → level ≤ level_count_of p
    → levels ≡ level_count_of p - level
    → level_digest p.settings (blocks_under p level bytes) (count_under p level - 1) levels
    ≡ root p.settings (data_blocks p bytes)
unfolding root
join-root p level levels bytes planned within count =
    let s = p.settings in
    let f = fan s in
    let xs = data_blocks p bytes in
    let all : level + levels ≡ level_count_of p = omega (arith, count, within) in
    let own = blocks-most (plan_of_join p level) (IsPlan-join p level planned within) in
    let wide : f ^ level_count_of (plan_of_join p level) ≡ f ^ levels =
    ap (λ (k : ℕ). f ^ k) (levels-of_join p level planned within ∙ sym count) in
    let place : (count_under p level - 1) / f ^ levels ≡ 0 =
    div-eq_of_lt (omega (arith, own, wide, parts-some p level planned)) in
    let top : height s xs ≡ level_count_of p =
    height-level_count s xs (fan-some s) ∙ ap (level_count f) (length-cut s p.blocks p.wanted bytes) in
    rw (place, blocks_up-up s xs level levels, all, top) refl

-- the digest of the one part that is the whole tree is the root hash
pub root-of_part : (b : JoinBuilder) (n : ℕ) (memory bytes : List ℕ) → IsPlan b.plan → b.level ≤ level_count_of b.plan
    → level_count_of b.plan - b.level ≡ 0 → n ≡ (level_count_of b.plan - b.level) * b.plan.settings.hash_block
    → b.taken ≡ count_under b.plan b.level → IsJoined b memory bytes
    → take (length memory - n) (drop n memory) ≡ root b.plan.settings (data_blocks b.plan bytes)
root-of_part b n memory bytes planned within none from all h =
    let p = b.plan in
    let some : 0 < b.taken = omega (arith, all, parts-some p b.level planned) in
    take_all (length memory - n) (drop n memory) (omega (arith, length-drop n memory))
    ∙ ap (λ (k : ℕ). drop k memory) from
    ∙ h.last_is some
    ∙ ap (λ (k : ℕ). level_digest p.settings (blocks_under p b.level bytes) (k - 1) 0) all
    ∙ join-root p b.level 0 bytes planned within (sym none)

-- the hash of the top hash block is the root hash
pub root-of_top : (b : JoinBuilder) (levels size : ℕ) (memory bytes : List ℕ) → IsPlan b.plan
    → b.level ≤ level_count_of b.plan
    → 0 < levels → levels ≡ level_count_of b.plan - b.level → size ≡ b.plan.settings.hash_block → levels ≤ b.closed
    → b.taken ≡ count_under b.plan b.level → IsJoined b memory bytes
    → hash b.plan.settings (take ((levels - 1) * size + size - (levels - 1) * size) (drop ((levels - 1) * size) memory))
    ≡ root b.plan.settings (data_blocks b.plan bytes)
root-of_top b levels size memory bytes planned within some count wide closed all h =
    let p = b.plan in
    let s = p.settings in
    let blocks = blocks_under p b.level bytes in
    let own = level_count_of p - b.level in
    let l = levels - 1 in
    let top : b.closed - 1 ≡ l = omega (arith, closed, h.closed_most, count) in
    let up : l + 1 ≡ levels = omega (arith, some) in
    let out : HasClosed s blocks (b.taken - 1) l own (open_blocks s own memory) =
    rw top at (JoinStands-closed s blocks own b.taken b.closed (open_blocks s own memory) _
    (omega (arith, some, closed)) h) in
    ap (hash s) (range-is_run s.hash_block l size memory wide ∙ sym (open_block-within s.hash_block l own memory
    (omega (arith, up, count))) ∙ out.stands)
    ∙ ap (λ (k : ℕ). level_digest s blocks (b.taken - 1) k) up
    ∙ ap (λ (k : ℕ). level_digest s blocks (k - 1) levels) all
    ∙ join-root p b.level levels bytes planned within count
