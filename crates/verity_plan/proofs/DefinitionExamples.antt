-- Examples of docs/DEFINITIONS.md, computed: fan-outs, widths of slots, numbers of levels, an end and a place.
use Rattle.std.proofs.Common.{◌≡◌, refl}
use Rattle.verity_plan.specs.{Settings.{least_from, log2, slot_count, least_power}, Plans.{level_count, place, end_place}}

fan_512 : slot_count 32 512 ≡ 16
unfolding least_from log2 slot_count
fan_512 = refl

fan_4096 : slot_count 32 4096 ≡ 128
unfolding least_from log2 slot_count
fan_4096 = refl

fan_20 : slot_count 20 512 ≡ 16
unfolding least_from log2 slot_count
fan_20 = refl

width_48 : least_power 48 ≡ 64
unfolding least_from least_power
width_48 = refl

width_20 : least_power 20 ≡ 32
unfolding least_from least_power
width_20 = refl

width_28 : least_power 28 ≡ 32
unfolding least_from least_power
width_28 = refl

fan_28 : slot_count 28 4096 ≡ 128
unfolding least_from log2 slot_count
fan_28 = refl

fan_48 : slot_count 48 4096 ≡ 64
unfolding least_from log2 slot_count
fan_48 = refl

levels_1 : level_count 16 1 ≡ 0
unfolding least_from level_count
levels_1 = refl

levels_16 : level_count 16 16 ≡ 1
unfolding least_from level_count
levels_16 = refl

levels_most : level_count 16 18014398509481983 ≡ 14
unfolding least_from level_count
levels_most = refl

end_4097 : end_place 16 4097 1 ≡ 278
unfolding least_from level_count
end_4097 = refl

place_17 : place 16 17 1 0 1 ≡ 3
unfolding least_from level_count
place_17 = refl
