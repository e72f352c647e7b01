-- A block checked by the one hash block above it, and the top block by the root hash, for whoever keeps hash blocks that
-- are trusted already (Linux kernel, dm-verity page, "Hash Tree": each digest leads to the block above; fs-verity page,
-- "Merkle tree").
use Rattle.std.specs.Prelude.{◌≡◌, ◌≢◌, ◌<◌, ℕ, suc, ◌/◌, ◌%◌, ◌^◌, ◌&&◌, ◌==◌, List, length, nat_le, not, if◌then◌else◌, Result, Ok, Err}
use Rattle.std.specs.{List.{flat_map, range_with_len}, Str.bytes_eq}
use Rattle.verity_plan.specs.{Plans.PlanFields, PlanCounts.level_count_of, Settings.{TreeSettingsFields, fan, hash}}
use Rattle.verity_pass.specs.{Verdicts.digest_in, declared.link.LinkFault.{LinkFault, TheVariants.{Index, Level, Length, Differs}}}

-- the length of a block that stands so many levels above the data: of a data block, or of a hash block
abbrev pub block_size_up : TreeSettingsFields → ℕ → ℕ
block_size_up s levels = if levels == 0 then s.data_block else s.hash_block

-- the answer to the block under a level and the hash block of that level, both above data block i: the hash of the one
-- is the digest in its slot of the other
abbrev pub checked_link : PlanFields → ℕ → ℕ → List ℕ → List ℕ → Result Unit LinkFault
checked_link p i l block above =
    if nat_le p.blocks i then Err Index
    else (if nat_le (level_count_of p) l then Err Level
    else (if not (length block == block_size_up p.settings l && length above == p.settings.hash_block) then Err Length
    else (if bytes_eq (hash p.settings block)
    (digest_in p.settings above (i / fan p.settings ^ l % fan p.settings))
    then Ok tt else Err Differs)))

-- the answer to the top block above data block i, or to that data block if it is the only one: its hash is the root hash
abbrev pub checked_top : PlanFields → ℕ → List ℕ → List ℕ → Result Unit LinkFault
checked_top p i block root =
    if nat_le p.blocks i then Err Index
    else (if not (length block == block_size_up p.settings (level_count_of p)) then Err Length
    else (if bytes_eq (hash p.settings block) root then Ok tt else Err Differs))

-- blocks are accepted one by one, each by the next and the top one by the root hash: block 0 is data block i, and block
-- l + 1 a hash block of level l
pub record AreLinked (p : PlanFields) (i : ℕ) (blocks : ℕ → List ℕ) (root : List ℕ) : Type 0 where
  pub links : (l : ℕ) → l < level_count_of p → checked_link p i l (blocks l) (blocks (suc l)) ≡ Ok tt
  pub top : checked_top p i (blocks (level_count_of p)) root ≡ Ok tt

-- the path that the hash blocks of the lowest levels are, joined
abbrev pub joined : (ℕ → List ℕ) → ℕ → List ℕ
joined blocks levels = flat_map (λ l. blocks (suc l)) (range_with_len 0 levels)

-- two different blocks with one salted hash
pub record IsCollision (s : TreeSettingsFields) (x y : List ℕ) : Type 0 where
  pub differ : x ≢ y
  pub one_hash : hash s x ≡ hash s y
