use Rattle.{std.proofs.Common.{Option, sym, subst}, verity_format.specs.declared.super_fault.SuperFault.SuperFault}
use Rattle.verity_c_api.specs.Answers.{ReadsParameters}
use Rattle.verity_c.proofs.superblock.verity_read_superblock.Goals as goal

pub returns-in-Ok-clause-params : goal.returns-in-Ok-clause-params
returns-in-Ok-clause-params c =
    let bytes = c.args.bytes.now in
    let said = c.in-Ok.ensures.value in
    let none = (c.bytes_say_a_superblock_or_fail_a_test.ensures bytes).0 (c.in-Ok.superblock, said) in
    subst (λ (fault : Option SuperFault).
    ReadsParameters fault bytes c.args.hash_offset c.args.params.now c.parameters_of.result) (sym none)
    (record { superblock = c.in-Ok.superblock; said = said; parameters = c.parameters_of.ensures })
