use Rattle.sha_lanes.proofs.HashSha1.{sha1_is}
use Rattle.sha_lanes.proofs.sha_1.one_message.sha1_alone.Goals as goal

pub returns : goal.returns
returns c = sha1_is _ c.hash_bytes.ensures c.hash.ensures
