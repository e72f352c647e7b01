-- What verify is given. Two laws speak of it: verify accepts what format leaves, and data that verify accepts are true.
use Rattle.std.specs.Prelude.{◌≡◌, ℕ, true, List, Some}
use Rattle.{hex.specs.Hex.encode_lower, verity_plan.specs.Plans.IsPlan}
use Rattle.veritysetup.specs.{Options.Settings.SettingsFields, declared.runs.verify_input.VerifyInput.{VerifyInput, TheVariants.{Stored, Given}}}

-- the offset of the superblock that format wrote, and the digits of the root hash as the report of format has them; or
-- settings with the same plan and the root hash, whether there is a superblock or not
abbrev pub IsGivenBack : VerifyInput → SettingsFields → List ℕ → Type 0
IsGivenBack (Stored offset text) s root = (s.superblock ≡ true) × (offset ≡ s.offset) × (text.now ≡ encode_lower root)
IsGivenBack (Given settings) s root = (settings.now.plan ≡ s.plan) × (settings.now.root ≡ Some root)

-- if verify is given settings, their plan can be carried out, as that of all `Settings` of the code can
abbrev pub IsPlanIfGiven : VerifyInput → Type 0
IsPlanIfGiven (Stored offset text) = Unit {0}
IsPlanIfGiven (Given settings) = IsPlan settings.now.plan
