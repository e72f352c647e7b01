use Rattle.sha_lanes.proofs.Hash64.{sha512_is}
use Rattle.sha_lanes.proofs.words64.one_message.sha512_alone.Goals as goal

pub returns : goal.returns
returns c = sha512_is _ c.hash_bytes.ensures c.hash_value.ensures
