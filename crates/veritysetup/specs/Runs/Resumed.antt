-- A device on which format has begun: what format doesn't write is as before, and the superblock comes last.
use Rattle.std.specs.Prelude.{◌≡◌, ℕ, ◌≤◌, false, List, length, slice_index}
use Rattle.veritysetup.specs.{Options.Settings.SettingsFields, Runs.Formatted.is_written, declared.fault.Fault.Fault}
use Rattle.veritysetup.specs.declared.runs.verify_input.VerifyInput.{VerifyInput, TheVariants.{Stored, Given}}
use Rattle.veritysetup.specs.declared.fault.Fault.TheVariants as fault

-- the bytes that format doesn't write are as before, and nothing is added past the last byte that it writes
pub record KeepsOthers (s : SettingsFields) (before after : List ℕ) : Type 0 where
  pub others : (i : ℕ) → is_written s i ≡ false → slice_index after i ≡ slice_index before i
  pub no_shorter : length before ≤ length after
  pub no_longer : (i : ℕ) → length before ≤ i → ((j : ℕ) → i ≤ j → is_written s j ≡ false) → length after ≤ i

-- a fault of format before it writes the superblock
abbrev pub IsBeforeSuperblock : Fault → Type 0
IsBeforeSuperblock fault.Store = Unit {0}
IsBeforeSuperblock (fault.Build cause) = Unit {0}
IsBeforeSuperblock other = ⊥

-- verify is to read a superblock at this offset
abbrev pub IsStoredAt : ℕ → VerifyInput → Type 0
IsStoredAt at (Stored offset text) = offset ≡ at
IsStoredAt at (Given settings) = ⊥
