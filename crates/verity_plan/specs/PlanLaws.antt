-- What the laws say of the number of levels and of places.
use Rattle.std.specs.Prelude.{◌<◌, ◌≤◌, ℕ, ◌^◌, ◌≡◌}
use Rattle.verity_plan.specs.Plans.{IsTreeBlock, place, end_place}

-- the least number of levels with n ≤ fan ^ levels
pub record IsLevelCount (fan n levels : ℕ) : Type 0 where
  pub enough : n ≤ fan ^ levels
  pub least : (m : ℕ) → m < levels → fan ^ m < n

-- the places are base to the end, each that of one block
pub record PlacesAreOnce (fan n base : ℕ) : Type 0 where
  pub within : (l j : ℕ) → IsTreeBlock fan n l j → (base ≤ place fan n base l j)
      × (place fan n base l j < end_place fan n base)
  pub once : (l j m k : ℕ) → IsTreeBlock fan n l j → IsTreeBlock fan n m k → place fan n base l j ≡ place fan n base m k
      → (l ≡ m) × (j ≡ k)
  pub each : (p : ℕ) → base ≤ p → p < end_place fan n base → (l : ℕ) × (j : ℕ) × IsTreeBlock fan n l j
      × (place fan n base l j ≡ p)
