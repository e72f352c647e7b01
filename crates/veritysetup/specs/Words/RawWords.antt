-- The words beside the options of veritysetup's commands (veritysetup(8)).
use Rattle.std.specs.Prelude.{ℕ, List, [], ◌∷◌, Option, Some, None}
use Rattle.veritysetup.specs.declared.words.command_name.CommandName.{CommandName, TheVariants.Verify}

-- the third and last of some words
abbrev pub third_word : List (List ℕ) → Option (List ℕ)
third_word (a ∷ b ∷ c ∷ []) = Some c
third_word words = None

-- the text of the root hash, which verify alone has
abbrev pub root_word : CommandName → List (List ℕ) → Option (List ℕ)
root_word Verify words = third_word words
root_word command words = None
