use Rattle.sha_lanes.proofs.Hash32.{sha256_is}
use Rattle.sha_lanes.proofs.words32.one_message.sha256_alone.Goals as goal

pub returns : goal.returns
returns c = sha256_is _ c.hash_bytes.ensures c.hash_value.ensures
