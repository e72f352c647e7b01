-- The command line of `fsverity` (fsverity(1)), in the words of clap, and what a line holds.
use Rattle.std.specs.Prelude.{◌≡◌, Option, Some, List, [], ◌∷◌, codes, map, option_map, unwrap_or, string_bytes}
use Rattle.{clap.specs.Words.{App, Row, Text, all_of, first_of}, fsverity.specs.declared.words.line.Line.Line}
use Rattle.command_line.specs.Arguments.{flag_of, flag_rule, named_app, option_rule, program_app, words_rule}

-- the command `digest`
unfoldable pub digest_app : App
digest_app = named_app (codes "digest") (option_rule (codes "hash-alg") ∷ option_rule (codes "block-size")
    ∷ option_rule (codes "salt") ∷ flag_rule (codes "compact") ∷ flag_rule (codes "for-builtin-sig")
    ∷ option_rule (codes "out-merkle-tree") ∷ option_rule (codes "out-descriptor") ∷ words_rule (codes "files") ∷ [])

-- the program
unfoldable pub fsverity_app : App
fsverity_app = program_app (codes "fsverity") (digest_app ∷ [])

-- the line holds what the rows hold, name by name
pub record HoldsRows (rows : List Row) (line : Line) : Type 0 where
  pub hash_alg : option_map string_bytes line.hash_alg ≡ first_of (codes "hash-alg") rows
  pub block_size : option_map string_bytes line.block_size ≡ first_of (codes "block-size") rows
  pub salt : option_map string_bytes line.salt ≡ first_of (codes "salt") rows
  pub compact : line.compact ≡ flag_of (first_of (codes "compact") rows)
  pub for_builtin_sig : line.for_builtin_sig ≡ flag_of (first_of (codes "for-builtin-sig") rows)
  pub out_merkle_tree : option_map string_bytes line.out_merkle_tree ≡ first_of (codes "out-merkle-tree") rows
  pub out_descriptor : option_map string_bytes line.out_descriptor ≡ first_of (codes "out-descriptor") rows
  pub files : map string_bytes line.files.items ≡ unwrap_or (all_of (codes "files") rows) []

-- the words name a command, and the line holds its rows
abbrev pub HoldsCommand : Option (Text × List Row) → Line → Type 0
HoldsCommand met line = (p : Text × List Row) × (met ≡ Some p) × HoldsRows p.1 line
