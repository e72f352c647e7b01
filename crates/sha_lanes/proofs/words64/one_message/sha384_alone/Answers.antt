use Rattle.sha_lanes.proofs.Hash64.{sha384_is}
use Rattle.sha_lanes.proofs.words64.one_message.sha384_alone.Goals as goal

pub returns : goal.returns
returns c = sha384_is _ c.leftmost_384.ensures c.hash_bytes.ensures c.hash_value.ensures
