-- Which of some hash blocks closes first: so the first block of a tree that passes a test, such as that it differs, is
-- found from the first of each part and of the join, which can be looked for apart from one another.
use Rattle.std.specs.Prelude.{ℕ, ◌==◌, ◌&&◌, ◌||◌, Bool, List, [], ◌∷◌, map, find, nat_lt, Option, Some, None, if◌then◌else◌}
use Rattle.{std.specs.List.range_with_len, verity_plan.specs.{Plans.PlanFields, PlanCounts.count_under}}
use Rattle.{verity_blocks.specs.ClosingOrder.{BlockIndex, closing_moment}, verity_builders.specs.Parts.{join_order, part_order}}

-- the first of two blocks closes before the other: after fewer data blocks, or after as many and on a lower level
abbrev pub closes_before : ℕ → ℕ → BlockIndex → BlockIndex → Bool
closes_before fan n a b = nat_lt (closing_moment fan n a) (closing_moment fan n b)
    || ((closing_moment fan n a == closing_moment fan n b) && nat_lt a.level b.level)

-- of two blocks, each of which there may be, the one that closes first
abbrev pub earlier : ℕ → ℕ → Option BlockIndex → Option BlockIndex → Option BlockIndex
earlier fan n None second = second
earlier fan n (Some a) None = Some a
earlier fan n (Some a) (Some b) = if closes_before fan n b a then Some b else Some a

-- of several, the one that closes first
unfoldable pub earliest : ℕ → ℕ → List (Option BlockIndex) → Option BlockIndex
earliest fan n [] = None
earliest fan n (first ∷ others) = earlier fan n first (earliest fan n others)

-- the first hash block that passes a test: that of the join, and that of each part of a level
abbrev pub first_of_each : PlanFields → ℕ → (BlockIndex → Bool) → List (Option BlockIndex)
first_of_each p level test = find test (join_order p level)
    ∷ map (λ part. find test (part_order p level part)) (range_with_len 0 (count_under p level))
