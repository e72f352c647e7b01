-- Each field is appended to those before it.
use Rattle.{std.proofs.Common.refl, verity_format.specs.Descriptors.descriptor_bytes}
use Rattle.verity_format.proofs.descriptor.write_descriptor.Goals as goal

pub returns : goal.returns
unfolding descriptor_bytes
returns c =
    rw (
      ← c.descriptor.view_is,
      c.finish.ensures,
      c.append-2.ensures.bytes,
      c.append_with_zeros.ensures.bytes,
      c.append_u64.ensures.bytes,
      c.append_zeros.ensures.bytes,
      c.append.ensures.bytes,
      c.new-fields.ensures,
      c.algorithm_number.ensures,
      c.algorithm.ensures,
      c.log2.ensures,
      c.data_block.ensures.value,
      c.as_bytes.ensures.bytes,
      c.salt-salt.ensures.value,
    ) refl
