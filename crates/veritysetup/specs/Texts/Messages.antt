-- The messages of veritysetup, one line each, this project's own. Level, block and child are counted from 0.
use Rattle.std.specs.Prelude.{ℕ, List, [], ◌∷◌, codes}
use Rattle.{std.specs.{Fmt.decimal, List.concat}, hex.specs.Hex.encode_lower, verity_format.specs.declared.super_fault.SuperFault.SuperFault}
use Rattle.verity_pass.specs.declared.{building.BuildFault.BuildFault, comparing.CompareFault.CompareFault, part.Part.Part}
use Rattle.verity_pass.specs.declared.part.Part.TheVariants.{Missing, Child, Spare}
use Rattle.veritysetup.specs.declared.options.option_fault.{OptionName.OptionName, OptionFault.OptionFault}
use Rattle.veritysetup.specs.declared.options.option_fault.OptionName.TheVariants.{HashOffset, Format, DataBlockSize, HashBlockSize, DataBlocks}
use Rattle.veritysetup.specs.declared.options.option_fault.OptionFault.TheVariants.{BadNumber, UnknownHash, BadHashType, BadBlockSize, BadSalt}
use Rattle.veritysetup.specs.declared.options.option_fault.OptionFault.TheVariants.{BadUuid, BadHashOffset, NoData, TooLarge, Overlap, BadRoot}
use Rattle.verity_pass.specs.declared.building.BuildFault.TheVariants as build
use Rattle.verity_pass.specs.declared.comparing.CompareFault.TheVariants as compare
use Rattle.verity_format.specs.declared.super_fault.SuperFault.TheVariants as super

-- an option's long name
abbrev pub option_name : OptionName → List ℕ
option_name Format = codes "format"
option_name DataBlockSize = codes "data-block-size"
option_name HashBlockSize = codes "hash-block-size"
option_name DataBlocks = codes "data-blocks"
option_name HashOffset = codes "hash-offset"

abbrev pub no_data_message : List ℕ
no_data_message = codes "No data blocks.\n"

abbrev pub too_large_message : List ℕ
too_large_message = codes "Data or hash area is too large.\n"

abbrev pub memory_message : List ℕ
memory_message = codes "Out of memory.\n"

-- a command line without a file that it must have
abbrev pub incomplete_message : List ℕ
incomplete_message = codes "error: the command line is not complete\n"

-- a file that can't be opened, or whose length can't be found
abbrev pub unopened_message : List ℕ → List ℕ
unopened_message path = concat (codes "Cannot open " ∷ path ∷ codes ".\n" ∷ [])

-- a file that the system does not keep as it was written
abbrev pub unwritten_message : List ℕ → List ℕ
unwritten_message path = concat (codes "Cannot write " ∷ path ∷ codes ".\n" ∷ [])

-- the system gives no random bytes
abbrev pub no_random_message : List ℕ
no_random_message = codes "Cannot get random bytes.\n"

abbrev pub unread_superblock_message : List ℕ
unread_superblock_message = codes "Cannot read superblock.\n"

abbrev pub unwritten_superblock_message : List ℕ
unwritten_superblock_message = codes "Cannot write superblock.\n"

abbrev pub unwritten_output_message : List ℕ
unwritten_output_message = codes "Cannot write output.\n"

-- a refused option
abbrev pub option_message : OptionFault → List ℕ
option_message (BadNumber option) = concat (codes "Option --" ∷ option_name option ∷ codes " is not a number.\n" ∷ [])
option_message UnknownHash = codes "Unknown hash algorithm.\n"
option_message BadHashType = codes "Hash type must be 0 or 1.\n"
option_message (BadBlockSize option) =
    concat (codes "Option --" ∷ option_name option ∷ codes " is not a valid block size.\n" ∷ [])
option_message BadSalt = codes "Salt is not valid.\n"
option_message BadUuid = codes "UUID is not valid.\n"
option_message BadHashOffset = codes "Hash offset is not valid.\n"
option_message NoData = no_data_message
option_message TooLarge = too_large_message
option_message Overlap = codes "Data area and hash area overlap.\n"
option_message BadRoot = codes "Root hash is not valid.\n"

-- a number in a superblock that is refused
abbrev pub refused_number_message : List ℕ → ℕ → List ℕ → List ℕ
refused_number_message field number adjective =
    concat (codes "Superblock " ∷ field ∷ codes " " ∷ decimal number ∷ codes " is not " ∷ adjective ∷ codes ".\n" ∷ [])

-- bytes that are no superblock
abbrev pub super_message : SuperFault → List ℕ
super_message super.Short = codes "Superblock is too short.\n"
super_message super.Signature = codes "No verity superblock.\n"
super_message (super.Version version) = refused_number_message (codes "version") version (codes "supported")
super_message (super.HashType number) = refused_number_message (codes "hash type") number (codes "supported")
super_message (super.DataBlockSize size) = refused_number_message (codes "data block size") size (codes "valid")
super_message (super.HashBlockSize size) = refused_number_message (codes "hash block size") size (codes "valid")
super_message super.Algorithm = codes "Superblock hash algorithm is not supported.\n"
super_message (super.SaltSize size) = refused_number_message (codes "salt size") size (codes "valid")
super_message super.NoData = no_data_message
super_message super.TooLarge = too_large_message

-- data that ends too early, and a data block that can't be read
abbrev pub short_message : ℕ → List ℕ
short_message block = concat (codes "Data ends before the end of block " ∷ decimal block ∷ codes ".\n" ∷ [])

abbrev pub unread_message : ℕ → List ℕ
unread_message block = concat (codes "Cannot read data block " ∷ decimal block ∷ codes ".\n" ∷ [])

-- a hash block that can't be written, or read
abbrev pub hash_block_message : List ℕ → ℕ → ℕ → List ℕ
hash_block_message attempt level block =
    concat (attempt ∷ codes " hash block " ∷ decimal block ∷ codes " of level " ∷ decimal level ∷ codes ".\n" ∷ [])

-- a tree that can't be built
abbrev pub build_message : BuildFault → List ℕ
build_message (build.SourceShort block) = short_message block
build_message (build.SourceFailed block) = unread_message block
build_message (build.DeviceFailed level block) = hash_block_message (codes "Cannot write") level block

-- what differs in a stored hash block
abbrev pub part_text : Part → List ℕ
part_text Missing = codes " is missing.\n"
part_text (Child child) = concat (codes ", child " ∷ decimal child ∷ codes ".\n" ∷ [])
part_text Spare = codes ", spare bytes.\n"

-- a stored hash block that is not the computed one
abbrev pub difference_message : ℕ → ℕ → Part → List ℕ
difference_message level block part =
    concat (codes "Verification failed: level " ∷ decimal level ∷ codes " block " ∷ decimal block ∷ part_text part ∷ [])

-- a tree that can't be compared, or is another one
abbrev pub compare_message : CompareFault → List ℕ
compare_message (compare.SourceShort block) = short_message block
compare_message (compare.SourceFailed block) = unread_message block
compare_message (compare.DeviceFailed level block) = hash_block_message (codes "Cannot read") level block
compare_message (compare.Differs level block part) = difference_message level block part
compare_message (compare.RootDiffers root) =
    concat (codes "Verification failed: root hash is " ∷ encode_lower root ∷ codes ".\n" ∷ [])
