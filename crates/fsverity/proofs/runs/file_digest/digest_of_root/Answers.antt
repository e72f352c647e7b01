use Rattle.{std.proofs.Common.{◌∙◌, ap, length, rules}, verity_hash.proofs.HashLemmas.length-hash_of}
use Rattle.fsverity.proofs.runs.file_digest.digest_of_root.Goals as goal

pub returns-clause-value : goal.returns-clause-value
returns-clause-value c = search rules

pub returns-clause-length : goal.returns-clause-length
returns-clause-length c = ap length (returns-clause-value c).digest ∙ length-hash_of _ _
