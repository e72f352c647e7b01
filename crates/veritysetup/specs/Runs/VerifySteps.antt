-- What a step of verify answers before the comparison, and what a device was verified by after it.
-- For the private functions; not needed to read a public contract.
use Rattle.std.specs.Prelude.{◌≡◌, ℕ, List, Option, Some, None, Result, Ok, Err}
use Rattle.{verity_plan.specs.Plans.PlanFields, veritysetup.specs.declared.runs.verify_input.VerifyInput.{VerifyInput, TheVariants.{Stored, Given}}}
use Rattle.veritysetup.specs.{Options.Settings.read_root, Runs.{Verify.{Refuses, RefusesStored}, Verified.{Trusts, Describes}}}
use Rattle.veritysetup.specs.declared.{fault.Fault.Fault, runs.{trusted_tree.TrustedTree.TrustedTree, verify.Verified.Verified}}

-- what the tree is compared by for an input, or why it is not
abbrev pub IsTrustedTree : VerifyInput → List ℕ → Result TrustedTree Fault → Type 0
IsTrustedTree input device (Ok tree) = Trusts input device tree.plan tree.root
IsTrustedTree input device (Err cause) = Refuses input device cause

-- the same for a superblock at an offset and the text of a root hash
abbrev pub IsStoredTree : ℕ → List ℕ → List ℕ → Result TrustedTree Fault → Type 0
IsStoredTree offset text device (Ok tree) = Describes offset text device tree.plan tree.root
IsStoredTree offset text device (Err cause) = RefusesStored offset text device cause

-- the byte at which the superblock stands that is read for an input, if one is
abbrev pub superblock_offset : VerifyInput → Option ℕ
superblock_offset (Stored offset text) = Some offset
superblock_offset (Given settings) = None

-- the plan and the root hash that an input asks for, as far as it says so without the device: the root hash of the
-- text, or the plan and the root hash of the settings
abbrev pub IsAskedFor : VerifyInput → PlanFields → List ℕ → Type 0
IsAskedFor (Stored offset text) plan root = read_root plan.settings.algorithm text.now ≡ Some root
IsAskedFor (Given settings) plan root = (plan ≡ settings.now.plan) × (settings.now.root ≡ Some root)

-- it was verified by what the input asks for
abbrev pub IsVerifiedBy : {N : Type 0} → VerifyInput → Verified N → Type 0
IsVerifiedBy input verified = (verified.offset ≡ superblock_offset input)
    × IsAskedFor input verified.tree.plan verified.tree.root
