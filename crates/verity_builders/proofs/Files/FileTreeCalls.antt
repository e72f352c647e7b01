-- Hash blocks of a file that are handed out, joined over all calls with those that are left, are those that building writes.
use Rattle.std.proofs.Common.{◌≡◌, ℕ, zero, suc, ◌+◌, ◌/◌, ◌^◌, ◌<◌, ◌≤◌, List, [], ◌∷◌, ◌++◌, length, map, take, drop, Option, Some, None, arith}
use Rattle.std.proofs.{Common.{refl, sym, ◌∙◌, ap, inl, inr, append_assoc, length-append}, lemmas.{Bool.cases_lt, List.append-nil}}
use Rattle.{std.{proofs.lemmas.List.FromFn.length-map-range_with_len, specs.List.{flat_map, range_with_len}}, verity_io.specs.Writing.put}
use Rattle.verity_plan.specs.{Plans.{IsPlan, PlanFields, plan_of_file, start_byte, start_byte_of}, PlanCounts.{level_count_of, most_level_count}}
use Rattle.verity_plan.specs.Settings.{TreeSettingsFields, fan}
use Rattle.verity_blocks.specs.{ClosingOrder.{BlockIndex, block_index, blocks_before, closed_after, first_closing, handed_out}, Levels.data_blocks}
use Rattle.verity_blocks.{specs.{TreeOnDevice.tree_block, TreeWriting.device_with}, proofs.Levels.CutBlocks.length-cut}
use Rattle.verity_blocks.proofs.Order.{HandedOut.{all-handed-out, first-closed, none-handed-out}, ClosingInTurn.device_with-append}
use Rattle.verity_builders.specs.FileTrees.{AreLastBlocks, BuildsFileTree, FileTreeCall, IsAfterTreeCalls, IsFedFileTree, IsFinal, asks, block_handed}
use Rattle.verity_builders.specs.FileTrees.{feeds, file_blocks, file_of_calls, given_of_file, end_index, put_all_handed, put_handed, put_last}
use Rattle.verity_builders.specs.declared.file_tree_builder.{FileHashBlock.FileHashBlock, FileTreeBuilder.FileTreeBuilder}

-- calls are made one after another
pub record AreTreeCalled (s : TreeSettingsFields) (calls : List FileTreeCall) (b after : FileTreeBuilder)
    (memory_after fed file device : List ℕ) : Type 0 where
  pub fed_is : IsFedFileTree after memory_after (fed ++ file_of_calls calls)
  pub order : (size : ℕ) → after.fed ≤ size → handed_out (plan_of_file s size) after.fed after.closed
      ≡ handed_out (plan_of_file s size) b.fed b.closed ++ flat_map block_handed calls
  pub stands : file ≡ fed ++ file_of_calls calls → IsPlan (plan_of_file s (length file)) → after.closed ≡ 0
      → put_all_handed (plan_of_file s (length file)) calls device
      ≡ device_with s (file_blocks s file) 0 (flat_map block_handed calls) device

-- a list with some more elements at its end isn't as long
not-longer : (xs ys zs : List BlockIndex) → 0 < length ys → xs ≡ (xs ++ ys) ++ zs → ⊥
not-longer xs ys zs some is =
    omega (arith, some, ap length is, length-append (xs ++ ys) zs, length-append xs ys)

-- where a hash block waits and later none does, bytes have come
more-come : (s : TreeSettingsFields) (count closed after : ℕ) (out : List BlockIndex) → 0 < closed
    → handed_out (plan_of_file s after) after 0 ≡ handed_out (plan_of_file s after) count closed ++ out → count ≤ after
    → count < after
more-come s count closed after out some order rises =
    elim (cases_lt count after) [
      | inl less ↦ less
      | inr most ↦
          let same : after ≡ count = omega (arith, most, rises) in
          let i = blocks_before s count in
          let f = fan s in
          let p = plan_of_file s count in
          let is : closed_after f p.blocks i
          ≡ (closed_after f p.blocks i ++ first_closing f i closed) ++ out =
          sym (append-nil _) ∙ rw same at order in
          let many = length-map-range_with_len (λ level. block_index level (i / f ^ (level + 1))) 0 closed in
          absurd (not-longer _ (first_closing f i closed) out (omega (arith, some, many)) is)
    ]

-- what one call hands out, put at its place, is the next of the tree's blocks
handed-put : (s : TreeSettingsFields) (fed taken memory more file device : List ℕ) (hash_block : Option FileHashBlock)
    → ((block : FileHashBlock) → hash_block ≡ Some block → IsFinal s (fed ++ taken) memory block)
    → ((block : FileHashBlock) → hash_block ≡ Some block → 0 < length more) → file ≡ (fed ++ taken) ++ more
    → IsPlan (plan_of_file s (length file))
    → put_handed (plan_of_file s (length file)) (feeds taken hash_block memory) device
    ≡ device_with s (file_blocks s file) 0 (given_of_file hash_block) device
unfolding device_with
handed-put s fed taken memory more file device None final goes_on is planned = refl
handed-put s fed taken memory more file device (Some block) final goes_on is planned =
    let p = plan_of_file s (length file) in
    let bytes : take s.hash_block (drop block.at memory) ≡ tree_block s (file_blocks s file) block.level block.index =
    rw (← is) at ((final block refl).bytes more (goes_on block refl) (rw (← is) planned)) in
    rw (bytes, length-cut s p.blocks p.wanted file) refl

pub tree-calls-joined : (s : TreeSettingsFields) (calls : List FileTreeCall) (b after : FileTreeBuilder)
    (memory memory_after fed file device : List ℕ) → b.settings ≡ s → IsFedFileTree b memory fed
    → IsAfterTreeCalls b memory calls after memory_after → AreTreeCalled s calls b after memory_after fed file device
unfolding IsAfterTreeCalls put_all_handed device_with
tree-calls-joined s [] b after memory memory_after fed file device settings h calls = record {
  fed_is = rw (append-nil, calls.1, calls.0) h;
  order = λ size enough. rw (calls.0, append-nil) refl;
  stands = λ is planned none. refl;
}
tree-calls-joined s (feeds taken hash_block held ∷ rest) b after memory memory_after fed file device settings h calls =
    let next = calls.0 in
    let step = calls.1.1 fed h in
    let bytes = file_of_calls rest in
    let blocks = flat_map block_handed rest in
    let goes_on = tree-calls-joined s rest next after held memory_after (fed ++ taken) file
    (put_handed (plan_of_file s (length file)) (feeds taken hash_block held) device) (calls.1.0 ∙ settings) step.is_fed calls.2 in
    let rises : next.fed ≤ after.fed =
    omega (arith, step.is_fed.count, goes_on.fed_is.count, length-append (fed ++ taken) bytes) in
    record {
      fed_is = rw (← append_assoc) goes_on.fed_is;
      order = λ size enough.
          goes_on.order size enough
          ∙ ap (λ (xs : List BlockIndex). xs ++ blocks) (rw settings at (step.order size (omega (arith, rises, enough))))
          ∙ append_assoc (handed_out (plan_of_file s size) b.fed b.closed) (given_of_file hash_block) blocks;
      stands = λ is planned none.
          let is_all : file ≡ (fed ++ taken) ++ bytes = is ∙ sym (append_assoc fed taken bytes) in
          let more : (block : FileHashBlock) → hash_block ≡ Some block → 0 < length bytes = λ block out.
          let waits : 0 < next.closed = omega (arith, (step.placed block out).level_is) in
          let come = more-come s next.fed next.closed after.fed blocks waits
          (rw none at (goes_on.order after.fed (omega arith))) rises in
          omega (arith, come, step.is_fed.count, goes_on.fed_is.count, length-append (fed ++ taken) bytes) in
          goes_on.stands is_all planned none
          ∙ ap (device_with s (file_blocks s file) 0 blocks)
          (handed-put s fed taken held bytes file device hash_block
          (λ block out. rw settings at (step.stands block out)) more is_all planned)
          ∙ sym (device_with-append s (file_blocks s file) 0 (given_of_file hash_block) blocks device);
    }
tree-calls-joined s (asks held ∷ rest) b after memory memory_after fed file device settings h calls =
    let next = calls.0 in
    let same = calls.1.0 in
    let goes_on = tree-calls-joined s rest next after held memory_after fed file device
    (ap (λ (x : FileTreeBuilder). x.settings) same ∙ settings)
    (rw same (calls.1.1 fed h)) calls.2 in
    record {
      fed_is = goes_on.fed_is;
      order = λ size enough. rw same at (goes_on.order size enough);
      stands = goes_on.stands;
    }

-- the last hash blocks of some levels, put at their places, are the tree's
last-put : (p : PlanFields) (file device : List ℕ) (blocks : ℕ → List ℕ) (from count : ℕ)
    → from + count ≤ level_count_of p
    → AreLastBlocks p file blocks
    → put_last p blocks (range_with_len from count) device
    ≡ device_with p.settings (data_blocks p file) p.base
    (map (λ level. block_index level (end_index p.settings p.wanted level)) (range_with_len from count)) device
unfolding put_last device_with
last-put p file device blocks from zero within are = refl
last-put p file device blocks from (suc count) within are =
    let s = p.settings in
    let block = tree_block s (data_blocks p file) from (end_index s p.wanted from) in
    let place : start_byte_of p from (end_index s p.wanted from)
    ≡ start_byte s (length (data_blocks p file)) p.base from (end_index s p.wanted from) =
    rw (length-cut s p.blocks p.wanted file) refl in
    last-put p file (put device (start_byte_of p from (end_index s p.wanted from)) (blocks from)) blocks (from + 1) count
    (omega (arith, within)) are
    ∙ ap (device_with s (data_blocks p file) p.base
    (map (λ level. block_index level (end_index s p.wanted level)) (range_with_len (from + 1) count)))
    (rw (are from (omega (arith, within)), place) refl)

pub tree-calls-build : (b after : FileTreeBuilder) (memory memory_after device : List ℕ) (calls : List FileTreeCall)
    (blocks : ℕ → List ℕ) → IsFedFileTree b memory [] → IsAfterTreeCalls b memory calls after memory_after
    → after.closed ≡ 0 → IsPlan (plan_of_file b.settings (length (file_of_calls calls)))
    → AreLastBlocks (plan_of_file b.settings (length (file_of_calls calls))) (file_of_calls calls) blocks
    → IsFedFileTree after memory_after (file_of_calls calls)
    × BuildsFileTree (plan_of_file b.settings (length (file_of_calls calls))) (file_of_calls calls) calls blocks device
tree-calls-build b after memory memory_after device calls blocks h fed_to none planned are =
    let s = b.settings in
    let file = file_of_calls calls in
    let p = plan_of_file s (length file) in
    let f = fan s in
    let i = blocks_before s p.wanted in
    let done = tree-calls-joined s calls b after memory memory_after [] file device refl h fed_to in
    let first = first-closed (plan_of_file s 1) (most_level_count s) b.closed _ _ h.stands in
    let all : after.fed ≡ length file = sym done.fed_is.count in
    let start : handed_out p b.fed b.closed ≡ [] = rw (← h.count, first) (none-handed-out p) in
    let order : closed_after f p.blocks i ≡ flat_map block_handed calls =
    sym (append-nil _) ∙ rw (all, none, start) at (done.order (length file) (omega (arith, all))) in
    let whole : flat_map block_handed calls ++ first_closing f i (level_count_of p) ≡ closed_after f p.blocks p.blocks =
    ap (λ (xs : List BlockIndex). xs ++ first_closing f i (level_count_of p)) (sym order) ∙ all-handed-out p planned in (
      done.fed_is,
      record {
        order = whole;
        stands = last-put p file (put_all_handed p calls device) blocks 0 (level_count_of p) (omega arith) are
            ∙ ap (device_with s (data_blocks p file) 0 (first_closing f i (level_count_of p))) (done.stands refl planned none)
            ∙ sym (device_with-append s (data_blocks p file) 0 (flat_map block_handed calls)
            (first_closing f i (level_count_of p)) device)
            ∙ ap (λ (xs : List BlockIndex). device_with s (data_blocks p file) 0 xs device) whole;
      },
    )
