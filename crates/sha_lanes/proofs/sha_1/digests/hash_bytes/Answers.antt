use Rattle.{std.proofs.Common.{ap, ◌∙◌}, sha_lanes.proofs.HashSha1.same_bytes}
use Rattle.sha2.specs.Sha256 as S256
use Rattle.sha_lanes.proofs.sha_1.digests.hash_bytes.Goals as goal

pub returns : goal.returns
returns c = c.put_bytes.ensures ∙ (ap (S256.digest_bytes c.args.words.now) c.told-words ∙ same_bytes c.args.words.now 5)
