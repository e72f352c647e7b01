-- The command lines of `veritysetup` (veritysetup(8)), in the words of clap, and what the code's `Line` holds of one.
use Rattle.std.specs.Prelude.{◌≡◌, Option, Some, None, List, [], ◌∷◌, ◌++◌, codes, map, option_map, string_bytes}
use Rattle.clap.specs.Words.{App, Row, Text, first_of}
use Rattle.command_line.specs.Arguments.{flag_of, flag_rule, named_app, option_rule, program_app, word_rule}
use Rattle.veritysetup.specs.declared.words.{command_name.CommandName.{CommandName, TheVariants.{Format, Dump, Verify}}, line.Line.Line}

-- `format [options] DATA HASH`
unfoldable pub format_app : App
format_app = named_app (codes "format") (option_rule (codes "hash") ∷ option_rule (codes "format")
    ∷ option_rule (codes "data-block-size") ∷ option_rule (codes "hash-block-size") ∷ option_rule (codes "data-blocks")
    ∷ option_rule (codes "salt") ∷ option_rule (codes "hash-offset") ∷ option_rule (codes "uuid")
    ∷ flag_rule (codes "no-superblock") ∷ word_rule (codes "DATA") ∷ word_rule (codes "HASH") ∷ [])

-- `dump [--hash-offset BYTES] HASH`
unfoldable pub dump_app : App
dump_app = named_app (codes "dump") (option_rule (codes "hash-offset") ∷ word_rule (codes "HASH") ∷ [])

-- `verify [options] DATA HASH ROOT`
unfoldable pub verify_app : App
verify_app = named_app (codes "verify") (option_rule (codes "hash") ∷ option_rule (codes "format")
    ∷ option_rule (codes "data-block-size") ∷ option_rule (codes "hash-block-size") ∷ option_rule (codes "data-blocks")
    ∷ option_rule (codes "salt") ∷ option_rule (codes "hash-offset") ∷ flag_rule (codes "no-superblock")
    ∷ word_rule (codes "DATA") ∷ word_rule (codes "HASH") ∷ word_rule (codes "ROOT") ∷ [])

-- the program
unfoldable pub veritysetup_app : App
veritysetup_app = program_app (codes "veritysetup") (format_app ∷ dump_app ∷ verify_app ∷ [])

-- the name of a command
abbrev pub command_text : CommandName → Text
command_text Format = codes "format"
command_text Dump = codes "dump"
command_text Verify = codes "verify"

-- the word, if it is given
abbrev pub word_list : Option Text → List Text
word_list None = []
word_list (Some word) = word ∷ []

-- DATA, HASH and ROOT, those that are given
abbrev pub given_files : List Row → List Text
given_files rows =
    (word_list (first_of (codes "DATA") rows) ++ word_list (first_of (codes "HASH") rows))
    ++ word_list (first_of (codes "ROOT") rows)

-- the line holds what the rows hold, name by name
pub record HoldsRows (rows : List Row) (line : Line) : Type 0 where
  pub hash : option_map string_bytes line.hash ≡ first_of (codes "hash") rows
  pub format : option_map string_bytes line.format ≡ first_of (codes "format") rows
  pub data_block_size : option_map string_bytes line.data_block_size ≡ first_of (codes "data-block-size") rows
  pub hash_block_size : option_map string_bytes line.hash_block_size ≡ first_of (codes "hash-block-size") rows
  pub data_blocks : option_map string_bytes line.data_blocks ≡ first_of (codes "data-blocks") rows
  pub salt : option_map string_bytes line.salt ≡ first_of (codes "salt") rows
  pub uuid : option_map string_bytes line.uuid ≡ first_of (codes "uuid") rows
  pub hash_offset : option_map string_bytes line.hash_offset ≡ first_of (codes "hash-offset") rows
  pub no_superblock : line.no_superblock ≡ flag_of (first_of (codes "no-superblock") rows)
  pub files : map string_bytes line.files.items ≡ given_files rows

-- the words name the line's command, and the line holds its rows
abbrev pub HoldsCommand : Option (Text × List Row) → Line → Type 0
HoldsCommand met line = (rows : List Row) × (met ≡ Some (command_text line.command, rows)) × HoldsRows rows line
