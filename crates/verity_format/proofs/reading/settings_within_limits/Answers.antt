-- Parts within the limits make settings.
use Rattle.{std.proofs.Common.{refl, sym, ◌∙◌}, verity_format.proofs.ReadLemmas.{IsValid-verity, verity_settings-ok}}
use Rattle.verity_format.proofs.reading.settings_within_limits.Goals as goal

pub unwrap-requires : goal.unwrap-requires
unwrap-requires c =
    let made = verity_settings-ok c.args.algorithm c.args.hash_type c.args.salt.now c.args.data_block c.args.hash_block
    c.requires.data_block_size c.requires.hash_block_size c.requires.salt_size in
    rw (c.verity.ensures, made) refl

pub returns-clause-value : goal.returns-clause-value
returns-clause-value c =
    let made = verity_settings-ok c.args.algorithm c.args.hash_type c.args.salt.now c.args.data_block c.args.hash_block
    c.requires.data_block_size c.requires.hash_block_size c.requires.salt_size in
    let same = sym c.unwrap.ensures ∙ c.verity.ensures ∙ made in cc

pub returns-clause-valid : goal.returns-clause-valid
returns-clause-valid c =
    rw (returns-clause-value c)
    (IsValid-verity c.args.algorithm c.args.hash_type c.args.salt.now c.args.data_block c.args.hash_block
    c.requires.data_block_size c.requires.hash_block_size c.requires.salt_size)
