-- Messages of one length side by side, or consecutive blocks of one message: a vector has one word of each, and lane j
-- is that of message or block j.
use Rattle.std.specs.Prelude.{◌≡◌, ℕ, ◌<◌, ◌≤◌, ◌+◌, ◌*◌, ◌++◌, List, [], length, map, slice_index, slice_index_or, take, drop}

-- the vector x has n lanes, and lane j is f j
pub record HasLanes (n : ℕ) (x : List ℕ) (f : ℕ → ℕ) : Type 0 where
  pub long : length x ≡ n
  pub value : (j : ℕ) → j < n → slice_index x j ≡ f j

-- the words of lane j in a list of vectors
abbrev pub lane : List (List ℕ) → ℕ → List ℕ
lane xs j = map (λ x. slice_index x j) xs

-- row j of a table of bytes
abbrev pub row : List (List ℕ) → ℕ → List ℕ
row rows j = slice_index_or rows j []

-- message j: `before`, then the jth of the parts, which have `len` bytes each, then `after`
abbrev pub message_of : List ℕ → List ℕ → ℕ → List ℕ → ℕ → List ℕ
message_of before parts len after j = before ++ take len (drop (j * len) parts) ++ after

-- the row r has the bytes from byte `at` on of m, and zeros after the end of m
abbrev pub HoldsFrom : List ℕ → List ℕ → ℕ → Type 0
HoldsFrom r m at = (i : ℕ) → i < length r → slice_index r i ≡ slice_index m (at + i)

-- so many bytes, from byte `at` of a message on, lie in the piece of n bytes that begins at byte `from`
abbrev pub LiesIn : ℕ → ℕ → ℕ → ℕ → Type 0
LiesIn size n from at = (from ≤ at) × (at + size ≤ from + n)
