-- Eight rows of one size.
use Rattle.std.proofs.{Common.{ℕ, ◌+◌, ◌*◌, ◌<◌, ◌≤◌, arith}, Math.Nat.mul-le-mul_right}

-- row r of n ends within them
pub rows-within : (r n size : ℕ) → r < n → r * size + size ≤ n * size
rows-within r n size lt =
    let step : r + 1 ≤ n = omega arith in
    omega (arith, mul-le-mul_right size step)
