-- What contracts see of a store.
use Rattle.std.specs.Prelude.{ℕ}

-- its length in bytes, and for how many bytes it has memory
pub record StoreFields : Type 0 where
  pub length : ℕ
  pub room : ℕ
