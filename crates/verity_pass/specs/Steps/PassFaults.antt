-- Why a pass ends early.
-- For the private functions; not needed to read a public contract.
use Rattle.std.specs.Prelude.{Bool, Option}
use Rattle.verity_io.specs.Counting.{Side}
use Rattle.verity_pass.specs.declared.pass.pass_fault.{PassFault.TheVariants.{InData, AtBlock}, SourceStop.SourceStop}
use Rattle.verity_pass.specs.{Steps.{DataBlocks.side_of as block_side, OnClosed.stop_side}, declared.pass.pass_fault.PassFault.PassFault}

-- whose call failed
abbrev pub source_side : SourceStop → Option Side
source_side stop = block_side stop.why

abbrev pub side_of : {F : Type 0} → (F → Bool) → PassFault F → Option Side
side_of failed (InData stop) = source_side stop
side_of failed (AtBlock stop) = stop_side failed stop
