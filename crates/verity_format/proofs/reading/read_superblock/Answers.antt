-- The tests are made in their order, and bytes that pass them all say what they were read as.
use Rattle.std.proofs.{Common.{◌≡◌, ◌*◌, ◌<◌, nat_le, nat_lt, true, false, None, rules, arith, refl, sym, ◌∙◌}, lemmas.Bool.Decides.nat_tests}
use Rattle.{std.proofs.lemmas.Result.err_from_is_err_and, verity_io.specs.Writing.most_bytes}
use Rattle.verity_format.specs.{Superblocks.number_at, CheckedSuperblocks.first_failed, SuperblockSteps.type_tests}
use Rattle.verity_format.proofs.ReadLemmas.{IsSuperblock-made, superblock_fault-blocks, superblock_fault-settings, superblock_of-none}
use Rattle.verity_format.proofs.reading.read_superblock.Goals as goal

pub returns-in_err-tree-clause-fault : goal.returns-in_err-tree-clause-fault
returns-in_err-tree-clause-fault c =
    let header : first_failed (type_tests c.args.bytes.now) ≡ None = search rules in
    let p = err_from_is_err_and c.from_residual.result c.from_residual.ensures.1 in
    rw (p.1, p.2) (superblock_fault-settings c.args.bytes.now _ header c.in_err-tree.ensures.fault)

pub returns-then-blocks-eq0-clause-fault : goal.returns-then-blocks-eq0-clause-fault
returns-then-blocks-eq0-clause-fault c =
    let header : first_failed (type_tests c.args.bytes.now) ≡ None = search rules in
    let none : number_at 72 8 c.args.bytes.now ≡ 0 = sym c.u64_at-blocks.ensures ∙ c.if-blocks-eq0.true in
    superblock_fault-blocks c.args.bytes.now header c.in_ok-tree.ensures.passed ∙ rw none refl

pub returns-in-Some-new-clause-value : goal.returns-in-Some-new-clause-value
returns-in-Some-new-clause-value c =
    IsSuperblock-made c.args.bytes.now c.in-Some.hash_type c.in_ok-tree.tree c.copy_from_slice.new.self
    c.u64_at-blocks.result c.in-Some-new.superblock
    c.in_ok-tree.ensures.valid c.in_ok-tree.ensures.of_type c.copy_from_slice.ensures.len (sym c.new.ensures
    ∙ c.in-Some-new.is)
    (search rules) (search rules) (search rules) (search rules) (sym c.copy_from_slice.ensures.after)
    c.in_ok-tree.ensures.value (sym c.u64_at-blocks.ensures)

pub returns-in-None-clause-fault : goal.returns-in-None-clause-fault
returns-in-None-clause-fault c =
    let header : first_failed (type_tests c.args.bytes.now) ≡ None = search rules in
    let some : 0 < c.u64_at-blocks.result = omega (arith, c.if-blocks-eq0.false) in
    let first : nat_lt 0 (number_at 72 8 c.args.bytes.now) ≡ true =
    rw (← c.u64_at-blocks.ensures) (grind (arith, nat_tests, some)) in
    let over = superblock_of-none c.in-Some.hash_type c.in_ok-tree.tree c.copy_from_slice.new.self
    c.u64_at-blocks.result c.in_ok-tree.ensures.of_type some (sym c.new.ensures ∙ c.in-None.is) in
    let second : nat_le (number_at 72 8 c.args.bytes.now * number_at 64 4 c.args.bytes.now) most_bytes ≡ false =
    rw (c.in_ok-tree.ensures.value.data_block, ← c.u64_at-blocks.ensures) over in
    superblock_fault-blocks c.args.bytes.now header c.in_ok-tree.ensures.passed ∙ rw (first, second) refl
