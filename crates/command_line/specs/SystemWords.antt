-- The words of a command line as the system gives them: bytes, which may not be UTF-8. This project's own.
use Rattle.std.specs.Prelude.{◌≡◌, ℕ, ◌==◌, ◌&&◌, List, [], ◌∷◌, ◌++◌, IsUtf8, Some, codes, if◌then◌else◌, map, nat_lt, slice_get, String}
use Rattle.std.specs.Prelude.{string_bytes, take, ⊤}
use Rattle.{std.specs.{List.{concat, flat_map}, declared.alloc.Global.Global, Fmt.decimal}, hex.specs.Hex.encode_lower}
use Rattle.command_line.specs.declared.words.system_words.WordsFault.{WordsFault, TheVariants.{NotUtf8, Memory}}

-- a byte, escaped: a backslash twice, printable ASCII as it is, any other as two hexadecimal digits
abbrev pub escaped_byte : ℕ → List ℕ
escaped_byte byte =
    if byte == 92 then codes "\\\\"
    else if nat_lt 31 byte && nat_lt byte 127 then byte ∷ []
    else codes "\\x" ++ encode_lower (byte ∷ [])

-- the message for the word of this number, which is not UTF-8; the program's name has number 0
abbrev pub not_utf8_message : ℕ → List ℕ → List ℕ
not_utf8_message number word = concat
    (codes "error: argument " ∷ decimal number ∷ codes " is not UTF-8: " ∷ flat_map escaped_byte word ∷ codes "\n" ∷ [])

-- a word that is refused is not UTF-8
abbrev pub IsNotUtf8 : WordsFault → Type 0
IsNotUtf8 (NotUtf8 number word) = IsUtf8 word.items → ⊥
IsNotUtf8 Memory = ⊤

-- a word that is refused is the one of its number in the list, and those before it are UTF-8
abbrev pub IsRefusedIn : List (List ℕ) → WordsFault → Type 0
IsRefusedIn words (NotUtf8 number word) = (slice_get words number ≡ Some word.items)
    × ((texts : List (String Global)) × (map string_bytes texts ≡ take number words))
IsRefusedIn words Memory = ⊤
