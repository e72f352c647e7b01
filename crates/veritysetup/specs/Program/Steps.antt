-- What the steps of a command answer when all is done: by which options of the line, and over which of its files.
-- For the private functions; not needed to read a public contract.
use Rattle.std.specs.Prelude.{◌≡◌, ◌↔◌, ℕ, Bool, true, false, List, [], ◌∷◌, map, Option, Some, None, Ok, option_map, IfSome, IsOkAnd, IsTrue}
use Rattle.std.specs.Prelude.{is_some, not, ◌&&◌, string_bytes}
use Rattle.command_line.specs.{FileIdentities.PathsAreSameFile, declared.files.identity.FileIdentity.FileIdentity}
use Rattle.veritysetup.specs.{Options.{Choices.settings_of, OptionTexts.OptionTexts, Settings.{SettingsFields, read_root}}, Words.RawWords.root_word}
use Rattle.veritysetup.specs.{Program.Refusals.line_offset, declared.{program.done.Done.Done, runs.{dump.Dumped.Dumped, format.Formatted.Formatted}}}
use Rattle.veritysetup.specs.declared.{runs.{file_names.FileNames.FileNames, verify.Verified.Verified}, words.line.Line.Line}
use Rattle.veritysetup.specs.declared.words.command_name.CommandName.TheVariants.{Format, Dump, Verify}
use Rattle.veritysetup.specs.declared.program.done.Done.TheVariants as done

-- the texts of a line's options, and whether DATA and HASH are one file
abbrev pub line_texts : Line → Bool → OptionTexts
line_texts line same_file = record {
  hash = option_map string_bytes line.hash;
  format = option_map string_bytes line.format;
  data_block_size = option_map string_bytes line.data_block_size;
  hash_block_size = option_map string_bytes line.hash_block_size;
  data_blocks = option_map string_bytes line.data_blocks;
  salt = option_map string_bytes line.salt;
  uuid = option_map string_bytes line.uuid;
  hash_offset = option_map string_bytes line.hash_offset;
  root = root_word line.command (map string_bytes line.files.items);
  no_superblock = line.no_superblock;
  same_file = same_file;
}

-- a device is verified by the superblock at this offset and the text of a root hash
abbrev pub IsByStored : List ℕ → Verified FileNames → ℕ → Type 0
IsByStored root verified offset = (verified.offset ≡ Some offset)
    × (read_root verified.tree.plan.settings.algorithm root ≡ Some verified.tree.root)

-- or by settings, and no superblock
abbrev pub IsBySettings : Verified FileNames → SettingsFields → Type 0
IsBySettings verified s = (verified.offset ≡ None) × (verified.tree.plan ≡ s.plan) × (s.root ≡ Some verified.tree.root)

-- files are verified by a line and the text of a root hash: by the superblock at the line's offset, or, without one, by
-- the settings that the line chooses for the length of DATA
pub record IsVerifiedByLine (line : Line) (root : List ℕ) (verified : Verified FileNames) : Type 0 where
  pub stored : line.no_superblock ≡ false → IsOkAnd (line_offset line) (IsByStored root verified)
  pub given : line.no_superblock ≡ true
      → IsOkAnd (settings_of (line_texts line false) verified.files.length None) (IsBySettings verified)

-- files are formatted by the settings that a line chooses for the length of DATA, with random bytes that are drawn if
-- salt or UUID is missing; DATA and HASH are one file as their paths and the system's answers say. `FileIs` and
-- `PathIs` say which answers the system may give of an opened file and of a path, `IsDrawn` which bytes may be drawn
pub record IsFormattedByLine (FileIs : Option FileIdentity → Type 0) (PathIs : List ℕ → Option FileIdentity → Type 0)
    (IsDrawn : List ℕ → Type 0) (line : Line) (made : Formatted FileNames) : Type 0 where
  pub opened : Option FileIdentity
  pub opened_is : FileIs opened
  pub other : Option FileIdentity
  pub other_is : PathIs made.files.hash.now other
  pub same_file : Bool
  pub same : IsTrue same_file ↔ PathsAreSameFile made.files.data.now made.files.hash.now opened other
  pub random : Option (List ℕ)
  pub missing : is_some random ≡ not (is_some line.salt && is_some line.uuid)
  pub drawn : IfSome random IsDrawn
  pub chosen : settings_of (line_texts line same_file) made.files.length random ≡ Ok made.settings

-- a file is dumped by a line
abbrev pub IsDumpedByLine : Line → Dumped → Type 0
IsDumpedByLine line dumped = line_offset line ≡ Ok dumped.offset

-- what was done is the line's command, by the line, over the files that it names
abbrev pub IsDone : (Option FileIdentity → Type 0) → (List ℕ → Option FileIdentity → Type 0) → (List ℕ → Type 0) → Line
    → Done → Type 0
IsDone FileIs PathIs IsDrawn line (done.Formatted made synced) = (line.command ≡ Format)
    × IsFormattedByLine FileIs PathIs IsDrawn line made
    × (map string_bytes line.files.items ≡ made.files.data.now ∷ made.files.hash.now ∷ [])
IsDone FileIs PathIs IsDrawn line (done.Dumped dumped) = (line.command ≡ Dump) × IsDumpedByLine line dumped
    × (map string_bytes line.files.items ≡ dumped.hash.now ∷ [])
IsDone FileIs PathIs IsDrawn line (done.Verified verified) = (line.command ≡ Verify) × ((root : List ℕ)
    × IsVerifiedByLine line root verified
    × (map string_bytes line.files.items ≡ verified.files.data.now ∷ verified.files.hash.now ∷ root ∷ []))
