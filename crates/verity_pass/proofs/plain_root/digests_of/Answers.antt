-- Each block gives its digest, and the blocks end where the bytes do.
use Rattle.std.proofs.Common.{◌≡◌, ℕ, ◌+◌, ◌-◌, ◌*◌, ◌≤◌, List, ◌++◌, drop, map, min, replicate, take, arith, sym, ◌∙◌, ap, length}
use Rattle.std.{proofs.lemmas.List.{length-take, take_all}, specs.{List.range_with_len, Int.div_ceil}}
use Rattle.verity_plan.{specs.Settings.hash, proofs.{CountLemmas.mul-lt_div_ceil, FanLemmas.some_data}}
use Rattle.verity_blocks.{specs.{Levels.block_at, Steps.PlainRoots.digest_of_block}, proofs.Levels.CutBlocks.{map-hash-cut, mapped_more, take-run}}
use Rattle.verity_pass.proofs.plain_root.digests_of.Goals as goal

-- a run of the bytes, filled up with zeros
filled-is : (bytes part block : List ℕ) (i size count all len : ℕ) → size ≡ all
    → count ≡ min size (length bytes - i * size) → part ≡ take (i * size + count - i * size) (drop (i * size) bytes)
    → len ≡ length part → block ≡ take size part ++ replicate (size - len) 0
    → block ≡ block_at all (take (length bytes) bytes) i
filled-is bytes part block i size count all len size_is count_is part_is len_is block_is =
    let run = take-run bytes i size count all size_is count_is in
    let whole = take_all (length bytes) bytes (omega arith) in
    let short : length part ≤ size =
    omega (arith, ap length (part_is ∙ run), length-take all (drop (i * all) bytes), size_is) in
    let front = take_all size part short in
    cc

pub loop-i-preserved : goal.loop-i-preserved
loop-i-preserved c =
    let settings = c.args.settings.now in
    let bytes = c.args.bytes.now in
    let filled = filled-is bytes c.in_ok-block.block.items c.resize.new.self.items c.loop-i.i c.data_block-size.result
    c.min-count.result settings.data_block _ c.data_block-size.ensures.value c.min-count.ensures
    c.in_ok-block.ensures.items c.in_ok-block.block.ok.0 c.in_ok-resize.ensures.items in
    mapped_more (digest_of_block settings (length bytes) bytes) c.loop-i.digests.items _ c.loop-i.i c.hash.result
    c.in_ok-push.ensures.items c.loop-i.invariant (c.hash.ensures ∙ ap (hash settings) (rw c.deref.ensures.value filled))

pub returns : goal.returns
returns c =
    let settings = c.args.settings.now in
    let bytes = c.args.bytes.now in
    let count = div_ceil (length bytes) settings.data_block in
    let last : c.loop-i.i ≡ count = grind arith in
    c.loop-i.invariant
    ∙ ap (λ (n : ℕ). map (digest_of_block settings (length bytes) bytes) (range_with_len 0 n)) last
    ∙ sym (map-hash-cut settings count (length bytes) bytes)

pub overflow_mul-from : goal.overflow_mul-from
overflow_mul-from c = let some = some_data c.args.settings.now c.data_block-size.ensures.valid in grind (arith, mul-lt_div_ceil)

pub overflow_sub-bytes : goal.overflow_sub-bytes
overflow_sub-bytes c = let some = some_data c.args.settings.now c.data_block-size.ensures.valid in grind (arith, mul-lt_div_ceil)

pub overflow_add-from : goal.overflow_add-from
overflow_add-from c = let some = some_data c.args.settings.now c.data_block-size.ensures.valid in grind (arith, mul-lt_div_ceil)

pub slice_bounds-from_slice-end : goal.slice_bounds-from_slice-end
slice_bounds-from_slice-end c = let some = some_data c.args.settings.now c.data_block-size.ensures.valid in grind (arith, mul-lt_div_ceil)
