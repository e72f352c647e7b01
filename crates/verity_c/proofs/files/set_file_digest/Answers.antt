use Rattle.{std.proofs.Common.{◌∙◌, ap, length, sym}, verity_hash.proofs.HashLemmas.length-hash_of}
use Rattle.verity_c.proofs.files.set_file_digest.Goals as goal

pub set_digest-requires : goal.set_digest-requires
set_digest-requires c =
    ap length c.file_digest.ensures ∙ length-hash_of c.args.descriptor.now.tree.algorithm _ ∙ sym c.requires
