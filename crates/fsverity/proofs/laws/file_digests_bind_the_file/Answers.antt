use Rattle.fsverity.proofs.FileLemmas.{files-bound-by}
use Rattle.fsverity.proofs.laws.file_digests_bind_the_file.Goals as goal

pub returns : goal.returns
returns c = files-bound-by
