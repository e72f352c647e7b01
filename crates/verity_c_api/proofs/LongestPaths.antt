-- The longest paths, and the most memory.
use Rattle.std.{proofs.{Common.{◌≡◌, ◌+◌, ◌*◌, true, [], Ok, arith, refl}, lemmas.{Bool.Decides.nat_tests, Nat.ones_cat}}, specs.Int.is_power_of_two}
use Rattle.{std.specs.{Int.Count.{ones, ones_in}, Prelude.count_ones}, verity_blocks.specs.Windows.window_blocks}
use Rattle.verity_hash.specs.declared.{algorithm.Algorithm.TheVariants.Sha512, salting.SaltRule.TheVariants.{Before, PaddedBefore}}
use Rattle.verity_plan.specs.{Plans.{PlanFields, level_count}, PlanCounts.level_count_of, Settings.{fan, least_from, log2, slot_count}}
use Rattle.verity_c_api.specs.{Building.{file_memory_length_of, memory_length_of}, Parameters.{fsverity_plan_of, fsverity_tree_of, plan_of}}
use Rattle.verity_c_api.specs.declared.parameters.{FsverityParams.FsverityParams, VerityParams.VerityParams}

one_bit : count_ones 1 ≡ 1
unfolding ones ones_in
one_bit = refl

no_bit : count_ones 0 ≡ 0
unfolding ones ones_in
no_bit = refl

-- the block sizes are powers of two
power_1024 : is_power_of_two 1024 ≡ true
power_1024 =
    let bits : count_ones 1024 ≡ count_ones 1 + count_ones 0 = ones_cat 10 1 0 (omega arith) in
    grind (arith, nat_tests, bits, one_bit, no_bit)

power_524288 : is_power_of_two 524288 ≡ true
power_524288 =
    let bits : count_ones 524288 ≡ count_ones 1 + count_ones 0 = ones_cat 19 1 0 (omega arith) in
    grind (arith, nat_tests, bits, one_bit, no_bit)

-- data blocks of 1024 bytes and the largest hash blocks, with SHA-512, and one data block more than four levels have
pub longest : VerityParams
longest = record {
  hash_algorithm = 2;
  hash_type = 1;
  data_block_size = 1024;
  hash_block_size = 524288;
  data_blocks = 4503599627370497;
  hash_offset = 0;
  no_superblock = 0;
  salt_size = 0;
  salt = [];
  uuid = [];
}

pub longest_plan : PlanFields
longest_plan = record {
  settings = record { algorithm = Sha512; rule = Before; salt = []; data_block = 1024; hash_block = 524288 };
  blocks = 4503599627370497;
  wanted = 4611686018427388928;
  base = 1;
}

pub longest-planned : plan_of longest ≡ Ok longest_plan
unfolding longest longest_plan fan least_from level_count log2 slot_count
longest-planned = rw (power_1024, power_524288) refl

pub longest-path : level_count_of longest_plan * longest_plan.settings.hash_block ≡ 2621440
unfolding longest_plan fan least_from level_count log2 slot_count
longest-path = refl

pub longest-memory : memory_length_of longest_plan ≡ 2629632
unfolding longest_plan fan least_from level_count log2 slot_count window_blocks
longest-memory = refl

-- a file with one byte more than three levels of the largest blocks have
pub longest_file : FsverityParams
longest_file = record { hash_algorithm = 2; block_size = 524288; size = 288230376151711745; salt_size = 0; salt = [] }

pub longest_file_plan : PlanFields
longest_file_plan = record {
  settings = record { algorithm = Sha512; rule = PaddedBefore; salt = []; data_block = 524288; hash_block = 524288 };
  blocks = 549755813889;
  wanted = 288230376151711745;
  base = 0;
}

pub longest_file-planned : fsverity_plan_of longest_file ≡ Ok longest_file_plan
unfolding longest_file longest_file_plan fan least_from level_count log2 slot_count
longest_file-planned = rw power_524288 refl

pub longest_file-path : level_count_of longest_file_plan * longest_file_plan.settings.hash_block ≡ 2097152
unfolding longest_file_plan fan least_from level_count log2 slot_count
longest_file-path = refl

pub longest_file-memory : file_memory_length_of longest_file_plan.settings ≡ 2621440
unfolding longest_file_plan fan least_from level_count log2 slot_count window_blocks
longest_file-memory = refl

pub longest_file-made : fsverity_tree_of longest_file ≡ Ok longest_file_plan.settings
unfolding longest_file longest_file_plan
longest_file-made = rw power_524288 refl
