-- The report of format and dump, modelled on what veritysetup(8) prints.
use Rattle.std.specs.Prelude.{ℕ, ◌-◌, List, [], ◌∷◌, ◌++◌, length, replicate, codes, Option, Some, None}
use Rattle.{std.specs.{Fmt.decimal, List.concat}, hex.specs.Hex.encode_lower, uuid.specs.Text.{hyphenated_text, lower}}
use Rattle.{verity_format.specs.Superblocks.SuperblockFields, verity_plan.specs.Settings.type_number, verity_hash.specs.Hashing.name_of}

-- a line: the label filled with spaces to 17 bytes, a tab, the value
abbrev pub report_line : List ℕ → List ℕ → List ℕ
report_line label value = concat (label ∷ replicate (17 - length label) 32 ∷ codes "\t" ∷ value ∷ codes "\n" ∷ [])

-- the first line
abbrev pub title : List ℕ → List ℕ
title path = concat (codes "VERITY header information for " ∷ path ∷ codes "\n" ∷ [])

-- a salt's digits; no salt is `-`
abbrev pub salt_text : List ℕ → List ℕ
salt_text [] = codes "-"
salt_text (b ∷ rest) = encode_lower (b ∷ rest)

-- the text of a UUID: 32 lowercase digits in five groups (RFC 9562, section 4)
abbrev pub uuid_text : List ℕ → List ℕ
uuid_text uuid = hyphenated_text lower uuid

-- what stands in place of a UUID if there is no superblock
abbrev pub no_uuid_text : List ℕ
no_uuid_text = codes "-"

-- the line of the root hash, if there is one
abbrev pub root_line : Option (List ℕ) → List ℕ
root_line None = []
root_line (Some root) = report_line (codes "Root hash:") (encode_lower root)

-- the whole report, with this text of the UUID
unfoldable pub report_text : List ℕ → List ℕ → SuperblockFields → Option (List ℕ) → List ℕ
report_text path uuid v root = title path
    ++ report_line (codes "UUID:") uuid
    ++ report_line (codes "Hash type:") (decimal (type_number v.hash_type))
    ++ report_line (codes "Data blocks:") (decimal v.blocks)
    ++ report_line (codes "Data block size:") (decimal v.tree.data_block)
    ++ report_line (codes "Hash block size:") (decimal v.tree.hash_block)
    ++ report_line (codes "Hash algorithm:") (name_of v.tree.algorithm)
    ++ report_line (codes "Salt:") (salt_text v.tree.salt)
    ++ root_line root
