-- The texts of a line's options are those that its settings are chosen by.
use Rattle.std.{specs.Prelude.{is_some, option_copied, option_map, string_bytes}, proofs.Common.{◌≡◌, Bool, List, Option, None, Some, map, refl, ℕ}}
use Rattle.veritysetup.specs.{Options.OptionTexts.option_texts, Program.Steps.line_texts, Words.RawWords.root_word, declared.words.line.Line.Line}
use Rattle.{veritysetup.specs.declared.options.raw_options.RawOptions.RawOptions, std.specs.Borrow.Bor}

pub texts-same : (raw : RawOptions) (line : Line) (same_file : Bool)
    → option_copied raw.hash ≡ option_map string_bytes line.hash
    → option_copied raw.format ≡ option_map string_bytes line.format
    → option_copied raw.data_block_size ≡ option_map string_bytes line.data_block_size
    → option_copied raw.hash_block_size ≡ option_map string_bytes line.hash_block_size
    → option_copied raw.data_blocks ≡ option_map string_bytes line.data_blocks
    → option_copied raw.salt ≡ option_map string_bytes line.salt
    → option_copied raw.uuid ≡ option_map string_bytes line.uuid
    → option_copied raw.hash_offset ≡ option_map string_bytes line.hash_offset
    → option_copied raw.root ≡ root_word line.command (map string_bytes line.files.items)
    → raw.no_superblock ≡ line.no_superblock → raw.same_file ≡ same_file
    → option_texts raw ≡ line_texts line same_file
texts-same raw line same_file hash format data_block_size hash_block_size blocks salt uuid offset root none same = cc

-- a text is given where the line gives one
pub some_text : {A : Type 0} (text : Option (Bor (List ℕ))) (given : Option A) (bytes : A → List ℕ)
    → option_copied text ≡ option_map bytes given → is_some text ≡ is_some given
some_text None None bytes same = refl
some_text None (Some given) bytes same = cc
some_text (Some text) None bytes same = cc
some_text (Some text) (Some given) bytes same = refl
