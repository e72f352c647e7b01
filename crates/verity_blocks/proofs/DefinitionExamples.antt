-- Examples of docs/DEFINITIONS.md, computed: closing orders.
use Rattle.{std.proofs.Common.{◌≡◌, [], ◌∷◌, refl}, verity_plan.specs.{Settings.least_from, Plans.level_count}}
use Rattle.verity_blocks.specs.ClosingOrder.{block_index, closed_after}

closed_after_17 : closed_after 16 17 17 ≡ block_index 0 0 ∷ block_index 0 1 ∷ block_index 1 0 ∷ []
unfolding least_from level_count closed_after
closed_after_17 = refl

closed_after_257 : closed_after 16 257 257 ≡
    block_index 0 0 ∷ block_index 0 1 ∷ block_index 0 2 ∷ block_index 0 3 ∷ block_index 0 4 ∷ block_index 0 5 ∷
    block_index 0 6 ∷ block_index 0 7 ∷ block_index 0 8 ∷ block_index 0 9 ∷ block_index 0 10 ∷ block_index 0 11 ∷
    block_index 0 12 ∷ block_index 0 13 ∷ block_index 0 14 ∷ block_index 0 15 ∷ block_index 1 0 ∷ block_index 0 16 ∷
    block_index 1 1 ∷ block_index 2 0 ∷ []
unfolding least_from level_count closed_after
closed_after_257 = refl
