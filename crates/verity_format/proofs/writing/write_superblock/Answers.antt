-- Each field is appended to those before it.
use Rattle.{std.proofs.Common.refl, verity_format.specs.Superblocks.superblock_bytes}
use Rattle.verity_format.proofs.writing.write_superblock.Goals as goal

pub returns : goal.returns
unfolding superblock_bytes
returns c =
    rw (
      c.finish.ensures,
      c.append-3.ensures.bytes,
      c.append_zeros.ensures.bytes,
      c.append_u16.ensures.bytes,
      c.append_u64.ensures.bytes,
      c.append_u32-4.ensures.bytes,
      c.append_u32-3.ensures.bytes,
      c.append_with_zeros.ensures.bytes,
      c.append-2.ensures.bytes,
      c.append_u32-2.ensures.bytes,
      c.append_u32.ensures.bytes,
      c.append.ensures.bytes,
      c.new-fields.ensures,
      c.number.ensures,
      c.hash_type.ensures,
      c.uuid.ensures,
      c.as_bytes.ensures.value,
      c.name.ensures,
      c.algorithm.ensures,
      c.data_block.ensures.value,
      c.hash_block.ensures.value,
      c.blocks-2.ensures,
      c.salt-salt.ensures.value,
      c.tree-tree.ensures.value,
    ) refl
