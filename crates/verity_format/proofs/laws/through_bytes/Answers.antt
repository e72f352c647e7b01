-- The bytes say the superblock and no other, and fail no test.
use Rattle.std.proofs.Common.{◌≡◌, ◌↔◌, ℕ, List, Some, None, Result, Ok, Err, IfOk, IfErr, sym, ap, subst}
use Rattle.verity_format.specs.{Superblocks.{SuperblockFields, IsSuperblock}, CheckedSuperblocks.superblock_fault}
use Rattle.verity_format.specs.declared.super_fault.SuperFault.{SuperFault}
use Rattle.verity_format.proofs.laws.through_bytes.Goals as goal

read_is : (s : List ℕ) (v : SuperblockFields) (read : Result SuperblockFields SuperFault) → IsSuperblock s v
    → ((t : List ℕ) (x y : SuperblockFields) → IsSuperblock t x → IsSuperblock t y → x ≡ y)
    → ((t : List ℕ) → ((x : SuperblockFields) × IsSuperblock t x) ↔ (superblock_fault t ≡ None))
    → IfOk read (IsSuperblock s) → IfErr read (λ fault. superblock_fault s ≡ Some fault) → read ≡ Ok v
read_is s v (Ok w) said one none value fault = ap (λ (x : SuperblockFields). Ok x) (one s w v value said)
read_is s v (Err e) said one none value fault = let passes : superblock_fault s ≡ None = (none s).0 (v, said) in cc

pub returns : goal.returns
returns c =
    let v = c.args.superblock.now in
    let said = subst (λ (s : List ℕ). IsSuperblock s v) (sym c.write_superblock-bytes.ensures)
    (c.text_says_its_superblock.ensures v c.tree-tree.ensures.valid) in
    read_is c.write_superblock-bytes.result v c.read_superblock.result said c.bytes_say_one_superblock.ensures
    c.bytes_say_a_superblock_or_fail_a_test.ensures c.read_superblock.ensures.value c.read_superblock.ensures.fault
