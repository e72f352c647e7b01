-- What a builder of a tree hands out, joined over all calls, is what building writes.
use Rattle.std.proofs.Common.{◌≡◌, ℕ, ◌≤◌, List, [], ◌∷◌, ◌++◌, length, Option, Some, None, arith, refl, sym, ◌∙◌, ap, append_assoc}
use Rattle.{std.{proofs.lemmas.List.append-nil, specs.List.flat_map}, verity_builders.specs.declared.tree_builder.TreeBuilder.TreeBuilder}
use Rattle.verity_builders.specs.Feeding.{BuildsInCalls, FeedCall, FeedsCalls, IsFed, IsHandedOut, given, written, written_all}
use Rattle.verity_plan.specs.{Plans.{IsPlan, PlanFields}, PlanCounts.level_count_of, Settings.fan}
use Rattle.verity_blocks.specs.{ClosingOrder.{BlockIndex, closed_after, handed_out}, Levels.data_blocks, TreeWriting.device_with}
use Rattle.verity_blocks.{specs.declared.hash_block.HashBlock.HashBlock, proofs.{Levels.CutBlocks.length-cut, Order.ClosingInTurn.device_with-append}}
use Rattle.verity_blocks.proofs.Order.HandedOut.{all-handed-out, none-handed-out, first-closed}

-- what one call hands out, written, is the next of the tree's blocks put at its place
written-given : (p : PlanFields) (closed : Option HashBlock) (memory fed more all device : List ℕ)
    → ((block : HashBlock) → closed ≡ Some block → IsHandedOut p fed memory block) → all ≡ fed ++ more
    → length all ≤ p.wanted
    → written p closed memory device ≡ device_with p.settings (data_blocks p all) p.base (given closed) device
unfolding device_with
written-given p None memory fed more all device handed is most = refl
written-given p (Some block) memory fed more all device handed is most =
    let h = handed block refl in
    let bytes = h.bytes more (omega (arith, most, ap length is)) in
    rw (h.start_is, bytes, is, length-cut p.settings p.blocks p.wanted (fed ++ more)) refl

-- calls are made one after another
pub record AreCalled (p : PlanFields) (calls : List FeedCall) (b after : TreeBuilder)
    (memory_after fed all device : List ℕ) : Type 0 where
  pub plan_is : after.plan ≡ p
  pub fed_is : IsFed after memory_after (fed ++ flat_map (λ call. call.taken) calls)
  pub order : handed_out p after.fed after.closed
      ≡ handed_out p b.fed b.closed ++ flat_map (λ call. given call.hash_block) calls
  pub stands : all ≡ fed ++ flat_map (λ call. call.taken) calls → length all ≤ p.wanted
      → written_all p calls device
      ≡ device_with p.settings (data_blocks p all) p.base (flat_map (λ call. given call.hash_block) calls) device

pub calls-joined : (p : PlanFields) (calls : List FeedCall) (b after : TreeBuilder)
    (memory memory_after fed all device : List ℕ) → b.plan ≡ p → IsFed b memory fed
    → FeedsCalls b memory calls after memory_after
    → AreCalled p calls b after memory_after fed all device
unfolding FeedsCalls written_all device_with
calls-joined p [] b after memory memory_after fed all device plan h calls = record {
  plan_is = rw calls.0 plan;
  fed_is = rw (append-nil, calls.1, calls.0) h;
  order = rw (calls.0, append-nil) refl;
  stands = λ is most. refl;
}
calls-joined p (call ∷ rest) b after memory memory_after fed all device plan h calls =
    let next = calls.0 in
    let step = calls.2 fed h in
    let taken = flat_map (λ (c : FeedCall). c.taken) rest in
    let blocks = flat_map (λ (c : FeedCall). given c.hash_block) rest in
    let goes_on = calls-joined p rest next after call.memory memory_after (fed ++ call.taken) all
    (written p call.hash_block call.memory device) (calls.1 ∙ plan) step.is_fed calls.3 in
    record {
      plan_is = goes_on.plan_is;
      fed_is = rw (← append_assoc) goes_on.fed_is;
      order = goes_on.order
          ∙ ap (λ (xs : List BlockIndex). xs ++ blocks) (rw plan at step.order)
          ∙ append_assoc (handed_out p b.fed b.closed) (given call.hash_block) blocks;
      stands = λ is most.
          let is_all : all ≡ (fed ++ call.taken) ++ taken = is ∙ sym (append_assoc fed call.taken taken) in
          goes_on.stands is_all most
          ∙ ap (device_with p.settings (data_blocks p all) p.base blocks)
          (written-given p call.hash_block call.memory (fed ++ call.taken) taken all device (rw plan at step.stands) is_all most)
          ∙ sym (device_with-append p.settings (data_blocks p all) p.base (given call.hash_block) blocks device);
    }

pub calls-build : (b after : TreeBuilder) (memory memory_after device : List ℕ) (calls : List FeedCall) → IsPlan b.plan
    → IsFed b memory [] → FeedsCalls b memory calls after memory_after → after.fed ≡ b.plan.wanted
    → after.closed ≡ level_count_of b.plan
    → IsFed after memory_after (flat_map (λ call. call.taken) calls)
    × BuildsInCalls b.plan (flat_map (λ call. call.taken) calls) calls device
calls-build b after memory memory_after device calls planned h fed_to all closed =
    let p = b.plan in
    let bytes = flat_map (λ (c : FeedCall). c.taken) calls in
    let done = calls-joined p calls b after memory memory_after [] bytes device refl h fed_to in
    let first = first-closed p (level_count_of p) b.closed _ _ h.stands in
    let none : handed_out p b.fed b.closed ≡ [] = rw (← h.count, first) (none-handed-out p) in
    let order : flat_map (λ (c : FeedCall). given c.hash_block) calls ≡ closed_after (fan p.settings) p.blocks p.blocks =
    sym (rw (all, closed, none) at done.order) ∙ all-handed-out p planned in (
      done.fed_is,
      record {
        order = order;
        stands = done.stands refl (omega (arith, done.fed_is.count, all))
            ∙ ap (λ (xs : List BlockIndex). device_with p.settings (data_blocks p bytes) p.base xs device) order;
      },
    )
