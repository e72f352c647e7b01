-- One data block read from the source.
use Rattle.std.proofs.Common.{List, [], ap, arith, drop, inl, inr, length, length-drop, min, refl, sym, take, ℕ, ◌*◌, ◌+◌, ◌-◌, ◌/◌, ◌<◌, ◌∙◌, ◌++◌}
use Rattle.std.proofs.{Common.{length-append, ◌≡◌, ◌≤◌}, lemmas.{Bool.cases_lt, Nat.le-div}, Math.Nat.div-eq_of_lt-le}
use Rattle.{std.proofs.lemmas.List.{take_all, take-take, drop_at, drop-take, drop-drop, length-take}, verity_hash.specs.Hashing.with_zeros}
use Rattle.{verity_io.specs.Reading.HasRead, verity_plan.proofs.FanLemmas.some_data, verity_pass.specs.Reading.{EndsWithin, FailsWithin, bytes_of}}
use Rattle.verity_plan.{proofs.{IndexLemmas.quotient-below, CountLemmas.mul-lt_div_ceil}, specs.{Plans.{IsPlan, PlanFields}, Settings.hash}}
use Rattle.verity_blocks.specs.{Levels.{block_at, data_blocks, whole_blocks}, Steps.{PlainRoots.digest_of_block, OpenBlocks.level_digest}}
use Rattle.verity_blocks.proofs.Levels.DataBlocks.{level_digest-data, whole_blocks-less, whole_blocks-all}

-- the next bytes of a file in a block are its next block
block-next : (bytes : List ℕ) (b size i data_len : ℕ) → i * b < size → data_len ≡ min b (size - i * b)
    → with_zeros b (take data_len (drop (i * b) bytes)) ≡ block_at b (take size bytes) i
block-next bytes b size i data_len here w =
    let most = size - i * b in
    let rest = drop (i * b) bytes in
    let split : i * b + most ≡ size = omega arith in
    let run = drop-take (i * b) most bytes in
    ap (with_zeros b) (elim (cases_lt b most) [
      | inl less ↦ let whole : data_len ≡ b = omega arith in let front = take-take b most rest (omega arith) in cc
      | inr within ↦
          let all : data_len ≡ most = omega arith in
          let front = take_all b (take most rest) (omega (arith, length-take most rest)) in cc
    ])

-- a data block begins within what is wanted
begins-within : (p : PlanFields) → IsPlan p → (i : ℕ) → i < p.blocks → i * p.settings.data_block < p.wanted
begins-within p planned i below =
    mul-lt_div_ceil p.wanted p.settings.data_block i (some_data p.settings planned.valid)
    (omega (arith, below, planned.blocks_are))

-- the next data block is read
pub data-next : (p : PlanFields) → IsPlan p → (i data_len : ℕ) (bytes rest after block : List ℕ) → i < p.blocks
    → data_len ≡ min (p.wanted - i * p.settings.data_block) p.settings.data_block → HasRead (bytes_of p i) bytes rest
    → data_len ≤ length rest → block ≡ with_zeros p.settings.data_block (take data_len rest) → after ≡ drop data_len rest
    → HasRead (bytes_of p (i + 1)) bytes after × (hash p.settings block ≡ level_digest p.settings (data_blocks p bytes) i 0)
data-next p planned i data_len bytes rest after block below w read_before more is goes =
    let s = p.settings in
    let d = s.data_block in
    let size = p.wanted in
    let here : i * d < size = begins-within p planned i below in
    let wanted : data_len ≡ min d (size - i * d) = omega (arith, w) in
    let before : bytes_of p i ≡ i * d = omega (arith, here) in
    let next : bytes_of p (i + 1) ≡ i * d + data_len = omega (arith, wanted, here) in
    let from : rest ≡ drop (i * d) bytes = read_before.rest ∙ ap (λ (k : ℕ). drop k bytes) before in
    let row = block-next bytes d size i data_len here wanted in
    let further = drop-drop data_len (i * d) bytes in
    let digest : hash s block ≡ digest_of_block s size bytes i = cc in (
      record {
        enough = omega (arith, next, more, ap length from, length-drop (i * d) bytes, read_before.enough, here);
        rest = cc;
      },
      level_digest-data s p.blocks size i bytes (hash s block) below digest,
    )

-- the bytes that come next were read too
pub HasRead-more : (n m : ℕ) (bytes more after : List ℕ) → length more ≡ m → n ≤ length bytes
    → drop n bytes ≡ more ++ after
    → HasRead (n + m) bytes after
HasRead-more n m bytes more after long enough next = record {
  enough = omega (arith, enough, sym (length-drop n bytes) ∙ ap length next ∙ length-append more after, long);
  rest = sym (drop_at more after m long) ∙ ap (drop m) (sym next) ∙ drop-drop m n bytes;
}

-- so many bytes, which are whole data blocks and not all that are wanted, were read
pub HasRead-blocks : (p : PlanFields) → IsPlan p → (n : ℕ) (bytes rest : List ℕ) → n < p.wanted
    → n / p.settings.data_block * p.settings.data_block ≡ n → HasRead n bytes rest
    → (n / p.settings.data_block < p.blocks) × HasRead (bytes_of p (n / p.settings.data_block)) bytes rest
HasRead-blocks p planned n bytes rest less whole read =
    let size = p.settings.data_block in
    let most : min (n / size * size) p.wanted ≡ n = omega (arith, whole, less) in (
      rw planned.blocks_are (quotient-below n p.wanted size (some_data p.settings planned.valid) less),
      rw most read,
    )

-- nothing was read of the source
pub HasRead-none : (p : PlanFields) (bytes : List ℕ) → HasRead (bytes_of p 0) bytes bytes
HasRead-none p bytes =
    let none : bytes_of p 0 ≡ 0 = omega arith in
    record { enough = omega (arith, none); rest = ap (λ (k : ℕ). drop k bytes) (sym none) }

-- bytes that end within block i hold i blocks
pub whole-short : (p : PlanFields) (i : ℕ) (bytes : List ℕ) → bytes_of p i ≤ length bytes
    → length bytes < bytes_of p (i + 1) → whole_blocks p bytes ≡ i
whole-short p i bytes enough short =
    whole_blocks-less p bytes (omega (arith, short))
    ∙ div-eq_of_lt-le p.settings.data_block (omega (arith, enough, short)) (omega (arith, short))

-- the source ends within block i, of which no more bytes are read
pub short-within : (p : PlanFields) → IsPlan p → (i data_len : ℕ) (bytes rest after : List ℕ) → i < p.blocks
    → data_len ≤ min (p.wanted - i * p.settings.data_block) p.settings.data_block → HasRead (bytes_of p i) bytes rest
    → length rest < data_len → after ≡ [] → EndsWithin p i bytes after
short-within p planned i data_len bytes rest after below w read_before short none =
    let left = ap length read_before.rest ∙ length-drop (bytes_of p i) bytes in
    let within : length bytes < bytes_of p (i + 1) =
    omega (arith, left, read_before.enough, begins-within p planned i below, w, short) in
    record {
      below = below;
      whole_is = sym (whole-short p i bytes read_before.enough within);
      enough = read_before.enough;
      short = within;
      rest = none;
    }

-- the source failed within block i
pub failed-within : (p : PlanFields) → IsPlan p → (i data_len : ℕ) (bytes rest after taken : List ℕ) → i < p.blocks
    → data_len ≤ min (p.wanted - i * p.settings.data_block) p.settings.data_block → HasRead (bytes_of p i) bytes rest
    → length taken < data_len → rest ≡ taken ++ after → FailsWithin p i bytes after
failed-within p planned i data_len bytes rest after taken below w read_before less is =
    record {
      below = below;
      count = bytes_of p i + length taken;
      from = omega arith;
      to = omega (arith, begins-within p planned i below, w, less);
      read = HasRead-more (bytes_of p i) (length taken) bytes taken after refl read_before.enough (sym read_before.rest ∙ is);
    }

-- bytes of which i blocks were read hold at least i blocks
pub whole_blocks-above : (p : PlanFields) → IsPlan p → (i : ℕ) (bytes : List ℕ) → i ≤ p.blocks
    → bytes_of p i ≤ length bytes
    → i ≤ whole_blocks p bytes
whole_blocks-above p planned i bytes within enough = elim (cases_lt (length bytes) p.wanted) [
  | inl less ↦
      let fits = le-div i (length bytes) p.settings.data_block (some_data p.settings planned.valid) (omega arith) in
      omega (arith, whole_blocks-less p bytes less, fits)
  | inr all ↦ omega (arith, whole_blocks-all p bytes all, within)
]
