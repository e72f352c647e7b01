use Rattle.std.proofs.Common.{◌≡◌, ◌∙◌, ℕ, ◌+◌, ◌*◌, ◌/◌, ◌%◌, ◌-◌, ◌<◌, ◌≤◌, ◌&&◌, ◌||◌, Bool, true, false, List, length, take, cond, Some, None}
use Rattle.std.proofs.{Common.{nat_le, arith, ap, refl, sym, subst}, Math.Nat.mod-eq-sub-div-mul, lemmas.Bool.Decides.nat_tests}
use Rattle.{verity_plan.specs.Plans.{base_of, end_place_of, offset_unit}, std.proofs.lemmas.List.{ext_get_or, get_or-take, length-take-le}}
use Rattle.veritysetup.specs.{Options.Settings.SettingsFields, Runs.Formatted.{IsFormattedDevice, is_within, is_written}}
use Rattle.{veritysetup.proofs.{AcceptedLemmas.verified-back, SettingsLemmas.{AreValid, superblock-before}}, verity_io.specs.Writing.most_bytes}
use Rattle.veritysetup.proofs.laws.one_file_keeps_its_data.Goals as goal

-- the tree doesn't begin before the hash offset
area-after : (s : SettingsFields) → AreValid s → s.offset ≤ s.plan.base * s.plan.settings.hash_block
area-after s valid = by_superblock s.superblock refl
  where
    by_test : (b : Bool) → cond b (Some (s.offset / s.plan.settings.hash_block)) None ≡ Some s.plan.base
        → s.offset % s.plan.settings.hash_block ≡ 0 → s.offset ≤ s.plan.base * s.plan.settings.hash_block
    by_test true e aligned =
        let size = s.plan.settings.hash_block in
        let most : s.offset / size ≡ s.plan.base = cc in
        omega (
          arith,
          subst (λ (q : ℕ). s.offset % size ≡ s.offset - q * size) most (mod-eq-sub-div-mul s.offset size),
          aligned,
        )
    by_test false e aligned = cc

    by_superblock : (b : Bool) → s.superblock ≡ b → s.offset ≤ s.plan.base * s.plan.settings.hash_block
    by_superblock true has = omega (arith, superblock-before s valid has)
    by_superblock false none =
        let size = s.plan.settings.hash_block in
        by_test (nat_le s.offset most_bytes)
        (ap (λ (b : Bool). base_of s.offset b size) (sym none) ∙ valid.agree.based)
        (ap (λ (b : Bool). s.offset % offset_unit b size) (sym none) ∙ valid.agree.aligned)

not_within : (first end i : ℕ) → i < first → is_within first end i ≡ false
not_within first end i below = grind (arith, nat_tests, below)

neither : (x y z : Bool) → y ≡ false → z ≡ false → ((x && y) || z) ≡ false
neither true false z e f = f
neither true true z e f = cc
neither false y z e f = f

-- nor is a byte written before it
untouched : (s : SettingsFields) → AreValid s → (i : ℕ) → i < s.offset → is_written s i ≡ false
untouched s valid i below =
    let size = s.plan.settings.hash_block in
    neither s.superblock (is_within s.offset (s.offset + 512) i)
    (is_within (s.plan.base * size) (end_place_of s.plan * size) i)
    (not_within s.offset (s.offset + 512) i below)
    (not_within (s.plan.base * size) (end_place_of s.plan * size) i (omega (arith, below, area-after s valid)))

kept : (s : SettingsFields) (source before after : List ℕ) → AreValid s → s.plan.wanted ≤ s.offset
    → s.plan.wanted ≤ length before → IsFormattedDevice s source before after
    → take s.plan.wanted after ≡ take s.plan.wanted before
kept s source before after valid apart enough formatted =
    let n = s.plan.wanted in
    let m : length (take n after) ≡ n = length-take-le n after (omega (arith, enough, formatted.no_shorter)) in
    let k : length (take n before) ≡ n = length-take-le n before enough in
    ext_get_or 0 (take n after) (take n before) (m ∙ sym k) (λ i below.
    let inside : i < n = omega (arith, below, m) in
    get_or-take n after i 0 inside
    ∙ formatted.others i (untouched s valid i (omega (arith, inside, apart)))
    ∙ sym (get_or-take n before i 0 inside))

pub returns-clause-kept : goal.returns-clause-kept
returns-clause-kept c = λ s source before after planned agree uuid apart enough formatted.
    kept s source before after (record { planned = planned; agree = agree; uuid = uuid }) apart enough formatted

pub returns-clause-verified : goal.returns-clause-verified
returns-clause-verified c =
    λ s path source rest before after out out_after input planned agree uuid apart enough same formatted given.
    let valid : AreValid s = record { planned = planned; agree = agree; uuid = uuid } in
    verified-back s input source after before after valid formatted.stands given
    (kept s source before after valid apart enough formatted.stands ∙ sym same)
