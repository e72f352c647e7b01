use Rattle.fsverity.proofs.FormLemmas.{fits_form}
use Rattle.fsverity.proofs.texts.digest_line_writing.write_digest_line.Goals as goal

pub digest_line-requires : goal.digest_line-requires
digest_line-requires g c =
    rw c.algorithm.ensures (fits_form c.args.form _ _ (c.data_block-valid.ensures.valid.known c.requires.settings)
    c.requires.digest)
