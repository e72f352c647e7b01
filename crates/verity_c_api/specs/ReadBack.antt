-- What comes back if a superblock is written from parameters and read again.
use Rattle.std.specs.Prelude.{◌≡◌, ℕ, List, length, take, None, Ok}
use Rattle.{verity_hash.specs.Hashing.with_zeros, verity_format.specs.CheckedSuperblocks.superblock_fault}
use Rattle.verity_plan.specs.{Plans.superblock_size, Settings.most_verity_salt}
use Rattle.verity_c_api.specs.{Answers.{ReadsParameters, superblock_in}, Parameters.plan_of, declared.parameters.VerityParams.VerityParams}

-- salt and UUID are as long as the fields of the struct
pub record HasFields (params : VerityParams) : Type 0 where
  pub salt : length params.salt ≡ most_verity_salt
  pub uuid : length params.uuid ≡ 16

-- the parameters, but for what a superblock doesn't say: the hash offset is the one at which it is read, a superblock
-- stands there, and the bytes of the salt that don't count are zeros
abbrev pub read_back : VerityParams → ℕ → VerityParams
read_back params offset = record {
  hash_algorithm = params.hash_algorithm;
  hash_type = params.hash_type;
  data_block_size = params.data_block_size;
  hash_block_size = params.hash_block_size;
  data_blocks = params.data_blocks;
  hash_offset = offset;
  no_superblock = 0;
  salt_size = params.salt_size;
  salt = with_zeros most_verity_salt (take params.salt_size params.salt);
  uuid = params.uuid;
}

-- these bytes are written from the parameters, and whoever reads them as a superblock has the parameters back
pub record IsReadBack (params : VerityParams) (bytes : List ℕ) : Type 0 where
  pub written : superblock_in (plan_of params) params.uuid superblock_size ≡ Ok bytes
  pub whole : length bytes ≡ superblock_size
  pub right : superblock_fault bytes ≡ None
  pub read : (offset : ℕ) (before after : VerityParams)
      → ReadsParameters (superblock_fault bytes) bytes offset before after → after ≡ read_back params offset
