use Rattle.sha_lanes.proofs.Hash32.{sha224_is}
use Rattle.sha_lanes.proofs.words32.one_message.sha224_alone.Goals as goal

pub returns : goal.returns
returns c = sha224_is _ c.leftmost_224.ensures c.hash_bytes.ensures c.hash_value.ensures
