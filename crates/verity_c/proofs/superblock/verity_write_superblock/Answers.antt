use Rattle.{std.proofs.Common.{◌≡◌, None, sym}, verity_format.specs.CheckedSuperblocks.superblock_of}
use Rattle.verity_c_api.proofs.SuperblockLemmas.{some_superblock}
use Rattle.verity_c.proofs.superblock.verity_write_superblock.Goals as goal

pub returns-in_default-clause-status : goal.returns-in_default-clause-status
returns-in_default-clause-status c =
    let p = c.in-Ok.plan in
    let uuid = c.args.params.now.uuid in
    let none : superblock_of p.settings uuid p.blocks ≡ None = cc in
    absurd (some_superblock c.args.params.now p uuid (sym c.in-Ok.ensures) c.blocks-2.ensures.planned none)

pub returns-in_default-clause-bytes : goal.returns-in_default-clause-bytes
returns-in_default-clause-bytes c =
    let p = c.in-Ok.plan in
    let uuid = c.args.params.now.uuid in
    let none : superblock_of p.settings uuid p.blocks ≡ None = cc in
    absurd (some_superblock c.args.params.now p uuid (sym c.in-Ok.ensures) c.blocks-2.ensures.planned none)
