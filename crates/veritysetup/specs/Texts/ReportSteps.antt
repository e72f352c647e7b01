-- What the steps of the report add to its text.
-- For the private functions; not needed to read a public contract.
use Rattle.std.specs.Prelude.{ℕ, List, ◌++◌, codes}
use Rattle.{std.specs.Fmt.decimal, verity_format.specs.Superblocks.SuperblockFields, veritysetup.specs.Texts.Reports.report_line}
use Rattle.verity_plan.specs.Settings.{type_number, TreeSettingsFields}

-- a text, and the lines on the device, with this text of the UUID
abbrev pub with_device : List ℕ → List ℕ → SuperblockFields → List ℕ
with_device text uuid v = text
    ++ report_line (codes "UUID:") uuid
    ++ report_line (codes "Hash type:") (decimal (type_number v.hash_type))
    ++ report_line (codes "Data blocks:") (decimal v.blocks)

-- a text, and the lines on the block sizes
abbrev pub with_sizes : List ℕ → TreeSettingsFields → List ℕ
with_sizes text tree = text
    ++ report_line (codes "Data block size:") (decimal tree.data_block)
    ++ report_line (codes "Hash block size:") (decimal tree.hash_block)

-- a text, and the lines on the salted hash
abbrev pub with_hash : List ℕ → List ℕ → List ℕ → List ℕ
with_hash text algorithm salt = text
    ++ report_line (codes "Hash algorithm:") algorithm
    ++ report_line (codes "Salt:") salt
