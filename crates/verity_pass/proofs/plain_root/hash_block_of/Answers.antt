-- Each digest adds its slot, and zeros fill the block.
use Rattle.{std.proofs.Common.arith, verity_pass.proofs.Slots.{slot_pushed, slots-filled, slots-more}}
use Rattle.verity_pass.proofs.plain_root.hash_block_of.Goals as goal

pub loop-digest-preserved : goal.loop-digest-preserved
loop-digest-preserved c = slots-more c.args.settings.now c.loop-digest.block.items
    c.extend_from_slice-in-loop-digest.new.self.items c.args.digests.now c.digest-item.result
    c.loop-digest.digest-index c.slot_width-width.result c.slot_width-width.ensures.value c.digest-item.is
    c.loop-digest-test.true c.loop-digest.invariant
    (slot_pushed c.loop-digest.block.items c.as_bytes-bytes.result.now c.digest-item.result
    c.extend_from_slice.new.self.items c.extend_from_slice-in-loop-digest.new.self.items c.saturating_sub.result
    c.slot_width-width.result c.in_ok-extend_from_slice.ensures.items c.in_ok-extend_from_slice-2.ensures.items
    c.as_bytes-bytes.ensures.bytes c.saturating_sub.ensures c.slot_width-width.ensures.most)

pub returns : goal.returns
returns c =
    let settings = c.args.settings.now in
    let before = c.loop-digest.block.items in
    slots-filled settings before c.resize.new.self.items c.args.digests.now c.loop-digest.digest-index c.max-size.result
    _ (omega (arith, c.loop-digest-test.false))
    (omega (arith, c.max-size.ensures, c.len.ensures, c.loop-digest.block.ok))
    (omega (arith, c.max-size.ensures, c.len.ensures, c.loop-digest.block.ok, c.hash_block-size.ensures.value))
    c.loop-digest.invariant c.in_ok-resize.ensures.items
