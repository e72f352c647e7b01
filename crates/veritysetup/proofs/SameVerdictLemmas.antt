-- Devices and sources that are alike in what a verdict goes by have one verdict.
use Rattle.std.proofs.Common.{◌≡◌, ℕ, ◌+◌, ◌-◌, ◌*◌, ◌<◌, ◌≤◌, ◌&&◌, not, cond, min, List, [], ◌∷◌, ◌++◌, length, take, drop, Option, Some, None}
use Rattle.std.proofs.{Common.{Result, Ok, Err, arith, sym, subst, ◌∙◌, ap, refl, inl, inr}, lemmas.Bool.{cases_Bool, cases_lt, Decides.nat_tests}}
use Rattle.std.proofs.lemmas.List.{drop-drop, drop-take, length-take, take-take, Elements.{All-cons, All-head, All-nil, All-tail}, Sums.sum_by-append}
use Rattle.{std.specs.{Result.result_err, Prelude.{◌==◌, IfErr, find, nat_lt}, Str.bytes_eq}, verity_io.specs.Reading.HasRead}
use Rattle.verity_plan.{specs.{Plans.{HasBlock, IsPlan, PlanFields, end_place_of, start_byte_of}, Settings.fan}, proofs.IndexLemmas.quotient-below}
use Rattle.{verity_plan.proofs.FanLemmas.{fan-some, some_data}, verity_blocks.proofs.Order.ClosesOnce.closed_time, veritysetup.specs.Faults.side_of}
use Rattle.verity_blocks.specs.{ClosingOrder.{BlockIndex, ComesNext, closed_after, times}, Levels.{data_blocks, root, whole_blocks}}
use Rattle.verity_blocks.{specs.TreeOnDevice.{stored_block, tree_block}, proofs.Order.TimesCounted.{times-first, times-more}}
use Rattle.verity_pass.specs.{Comparing.{CompareReads, Judges}, Reading.bytes_of, declared.comparing.CompareFault.CompareFault}
use Rattle.verity_pass.{specs.Verdicts.{HoldsBlockAt, NoneDiffers, difference, differs, part_of, verdict, verdict_by}, proofs.BesideTree.block-within}
use Rattle.veritysetup.specs.{Runs.Verify.{Compares, Refuses, Verifies}, declared.{fault.Fault.Fault, runs.verify_input.VerifyInput.VerifyInput}}
use Rattle.veritysetup.{proofs.AcceptedLemmas.data_blocks-same, specs.Runs.{GivenBack.IsPlanIfGiven, SameVerdicts.{AreAlike, IsJudged, hash_area}}}
use Rattle.veritysetup.proofs.InputLemmas.{refused-one, refused-there, trusted-one, trusted-planned, trusted-there, trusted-unrefused}
use Rattle.verity_pass.specs.declared.comparing.CompareFault.TheVariants as compare
use Rattle.veritysetup.specs.declared.fault.Fault.TheVariants as fault

-- ---- devices with one hash area

-- a range within another is read off that
range-of : (first end start size : ℕ) (device : List ℕ) → first ≤ start → start + size ≤ end
    → take size (drop start device) ≡ take size (drop (start - first) (take (end - first) (drop first device)))
range-of first end start size device from to =
    let k = start - first in
    let rest = drop first device in
    let split : end - first ≡ k + (end - start) = omega (arith, from, to) in
    let there : first + k ≡ start = omega (arith, from) in
    ap (λ (n : ℕ). take size (drop n device)) (sym there)
    ∙ ap (take size) (sym (drop-drop k first device))
    ∙ sym (take-take size (end - start) (drop k rest) (omega (arith, to)))
    ∙ ap (take size) (sym (drop-take k (end - start) rest))
    ∙ ap (λ (n : ℕ). take size (drop k (take n rest))) (sym split)

-- each block of the tree is stored alike
stored-alike : (p : PlanFields) (device other : List ℕ) → hash_area p device ≡ hash_area p other → (l j : ℕ)
    → HasBlock p l j → stored_block p device l j ≡ stored_block p other l j
stored-alike p device other same l j here =
    let size = p.settings.hash_block in
    let first = p.base * size in
    let end = end_place_of p * size in
    let start = start_byte_of p l j in
    let within = block-within p l j here in
    range-of first end start size device within.0 within.1
    ∙ ap (λ (area : List ℕ). take size (drop (start - first) area)) same
    ∙ sym (range-of first end start size other within.0 within.1)

-- these blocks are stored alike
abbrev AreStoredAlike : PlanFields → List ℕ → List ℕ → List BlockIndex → Type 0
AreStoredAlike p device other blocks =
    (l j : ℕ) → 0 < times l j blocks → stored_block p device l j ≡ stored_block p other l j

-- and so are those after the first
rest-alike : (p : PlanFields) (device other : List ℕ) (at : BlockIndex) (rest : List BlockIndex)
    → AreStoredAlike p device other (at ∷ rest) → AreStoredAlike p device other rest
rest-alike p device other at rest alike = λ l j some. alike l j (omega (arith, some, times-more l j at rest))

none-alike : (p : PlanFields) (blocks : List (List ℕ)) (device other : List ℕ) (hash_blocks : List BlockIndex)
    → AreStoredAlike p device other hash_blocks → NoneDiffers p blocks device hash_blocks
    → NoneDiffers p blocks other hash_blocks
none-alike p blocks device other [] alike none = All-nil (HoldsBlockAt p blocks other)
none-alike p blocks device other (at ∷ rest) alike none =
    All-cons (HoldsBlockAt p blocks other) at rest
    (sym (alike at.level at.index (times-first at rest)) ∙ All-head (HoldsBlockAt p blocks device) at rest none)
    (none-alike p blocks device other rest (rest-alike p device other at rest alike)
    (All-tail (HoldsBlockAt p blocks device) at rest none))

verdict_by-alike : (p : PlanFields) (bytes device other digest : List ℕ) (hash_blocks : List BlockIndex)
    → AreStoredAlike p device other hash_blocks
    → verdict_by p device bytes (find (differs p (data_blocks p bytes) device) hash_blocks) digest
    ≡ verdict_by p other bytes (find (differs p (data_blocks p bytes) other) hash_blocks) digest
verdict_by-alike p bytes device other digest [] alike = refl
verdict_by-alike p bytes device other digest (at ∷ rest) alike =
    let block = tree_block p.settings (data_blocks p bytes) at.level at.index in
    let same = alike at.level at.index (times-first at rest) in
    let test : differs p (data_blocks p bytes) device at ≡ differs p (data_blocks p bytes) other at =
    ap (λ (stored : List ℕ). not (bytes_eq stored block)) same in
    elim (cases_Bool (differs p (data_blocks p bytes) device at)) [
      | inl does ↦
          let too = sym test ∙ does in
          rw (does, too) (ap (λ (stored : List ℕ). Err (compare.Differs at.level at.index
          (part_of p at.level at.index stored block))) same)
      | inr fails ↦
          let too = sym test ∙ fails in
          rw (fails, too) (verdict_by-alike p bytes device other digest rest
          (rest-alike p device other at rest alike))
    ]

-- the blocks that have closed are stored alike
closed-alike : (p : PlanFields) (device other : List ℕ) (i : ℕ) → hash_area p device ≡ hash_area p other → i ≤ p.blocks
    → AreStoredAlike p device other (closed_after (fan p.settings) p.blocks i)
closed-alike p device other i same most = λ l j some.
    stored-alike p device other same l j
    (closed_time (fan p.settings) p.blocks l j i (fan-some p.settings) most some).0

-- ---- sources with the same covered bytes

-- they end at one byte, if before all that is wanted
lengths-alike : (n : ℕ) (x y : List ℕ) → take n x ≡ take n y → min n (length x) ≡ min n (length y)
lengths-alike n x y same = sym (length-take n x) ∙ ap length same ∙ length-take n y

whole-alike : (p : PlanFields) (x y : List ℕ) → take p.wanted x ≡ take p.wanted y → whole_blocks p x ≡ whole_blocks p y
whole-alike p x y same = grind (arith, nat_tests, lengths-alike p.wanted x y same)

-- there are no more whole blocks than blocks
whole-most : (p : PlanFields) (x : List ℕ) → IsPlan p → whole_blocks p x ≤ p.blocks
whole-most p x planned = elim (cases_lt (length x) p.wanted) [
  | inl less ↦ grind (
    arith,
    nat_tests,
    less,
    planned.blocks_are,
    quotient-below (length x) p.wanted p.settings.data_block (some_data p.settings planned.valid) less,
  )
  | inr all ↦ grind (arith, nat_tests, all)
]

read-alike : (wanted n : ℕ) (x y left : List ℕ) → take wanted x ≡ take wanted y → n ≤ wanted → HasRead n x left
    → HasRead n y (drop n y)
read-alike wanted n x y left same within read =
    record { enough = omega (arith, read.enough, within, lengths-alike wanted x y same); rest = refl }

-- ---- one verdict

-- as much is read of the one as of the other
reads-alike : (p : PlanFields) (result : Result Unit CompareFault) (x y left : List ℕ)
    → take p.wanted x ≡ take p.wanted y → CompareReads p result x left
    → (rest : List ℕ) × CompareReads p result y rest
reads-alike p (Ok right) x y left same read =
    (drop p.wanted y, read-alike p.wanted p.wanted x y left same (omega arith) read)
reads-alike p (Err (compare.RootDiffers computed)) x y left same read =
    (drop p.wanted y, read-alike p.wanted p.wanted x y left same (omega arith) read)
reads-alike p (Err (compare.SourceShort i)) x y left same read =
    let lengths = lengths-alike p.wanted x y same in (
      [],
      record {
        below = read.below;
        whole_is = read.whole_is ∙ whole-alike p x y same;
        enough = omega (arith, read.enough, lengths);
        short = omega (arith, read.short, lengths);
        rest = refl;
      },
    )
reads-alike p (Err (compare.SourceFailed i)) x y left same read = (
  drop read.count y,
  record {
    below = read.below;
    count = read.count;
    from = read.from;
    to = read.to;
    read = read-alike p.wanted read.count x y left same (omega (arith, read.to)) read.read;
  },
)
reads-alike p (Err (compare.DeviceFailed level block)) x y left same read = (
  drop (bytes_of p (read.i + 1)) y,
  record {
    i = read.i;
    below = read.below;
    here = read.here;
    read = read-alike p.wanted (bytes_of p (read.i + 1)) x y left same (omega arith) read.read;
  },
)
reads-alike p (Err (compare.Differs level block part)) x y left same read = (
  drop (bytes_of p (read.i + 1)) y,
  record {
    i = read.i;
    below = read.below;
    here = read.here;
    read = read-alike p.wanted (bytes_of p (read.i + 1)) x y left same (omega arith) read.read;
  },
)

-- the verdict by data blocks, the number of whole ones, and the first block that differs
abbrev verdict_of : PlanFields → List ℕ → List ℕ → List (List ℕ) → ℕ → Option BlockIndex → Result Unit CompareFault
verdict_of p device digest blocks whole (Some block) = Err (difference p blocks device block)
verdict_of p device digest blocks whole None = cond (nat_lt whole p.blocks) (Err (compare.SourceShort whole))
    (cond (bytes_eq (root p.settings blocks) digest) (Ok tt) (Err (compare.RootDiffers (root p.settings blocks))))

by-blocks : (p : PlanFields) (device bytes digest : List ℕ) (found : Option BlockIndex)
    → verdict_by p device bytes found digest
    ≡ verdict_of p device digest (data_blocks p bytes) (whole_blocks p bytes) found
by-blocks p device bytes digest (Some block) = refl
by-blocks p device bytes digest None = refl

verdict-alike : (p : PlanFields) (device other x y digest : List ℕ) → IsPlan p → hash_area p device ≡ hash_area p other
    → take p.wanted x ≡ take p.wanted y → verdict p device x digest ≡ verdict p other y digest
verdict-alike p device other x y digest planned area same =
    let closed : ℕ → List BlockIndex = closed_after (fan p.settings) p.blocks in
    let judge : List (List ℕ) → ℕ → Result Unit CompareFault =
    λ blocks whole. verdict_of p other digest blocks whole (find (differs p blocks other) (closed whole)) in
    verdict_by-alike p x device other digest (closed (whole_blocks p x))
    (closed-alike p device other (whole_blocks p x) area (whole-most p x planned))
    ∙ by-blocks p other x digest (find (differs p (data_blocks p x) other) (closed (whole_blocks p x)))
    ∙ ap (λ (blocks : List (List ℕ)). judge blocks (whole_blocks p x)) (data_blocks-same p x y same)
    ∙ ap (judge (data_blocks p y)) (whole-alike p x y same)
    ∙ sym (by-blocks p other y digest (find (differs p (data_blocks p y) other) (closed (whole_blocks p y))))

-- a block that is counted before the next is counted among all
done-counted : (all done : List BlockIndex) (block : BlockIndex) (l j : ℕ) → ComesNext all done block
    → 0 < times l j done → 0 < times l j all
done-counted all done block l j next some =
    let test : BlockIndex → ℕ = λ b. cond ((b.level == l) && (b.index == j)) 1 0 in
    let split : times l j all ≡ times l j ((done ++ block ∷ []) ++ next.rest) = ap (times l j) next.in_order in
    omega (arith, some, split, sum_by-append test (done ++ block ∷ []) next.rest, sum_by-append test done (block ∷ []))

judges-alike : (p : PlanFields) (device other x y left digest : List ℕ) (result : Result Unit CompareFault) → IsPlan p
    → hash_area p device ≡ hash_area p other → take p.wanted x ≡ take p.wanted y → CompareReads p result x left
    → Judges p device x digest result → Judges p other y digest result
judges-alike p device other x y left digest (Err (compare.SourceFailed i)) planned area same read judged =
    let before = closed_after (fan p.settings) p.blocks i in
    subst (λ (blocks : List (List ℕ)). NoneDiffers p blocks other before) (data_blocks-same p x y same)
    (none-alike p (data_blocks p x) device other before
    (closed-alike p device other i area (omega (arith, read.below))) judged)
judges-alike p device other x y left digest (Err (compare.DeviceFailed level block)) planned area same read judged =
    let all = closed-alike p device other p.blocks area (omega arith) in
    record {
      done = judged.done;
      next = judged.next;
      same = subst (λ (blocks : List (List ℕ)). NoneDiffers p blocks other judged.done) (data_blocks-same p x y same)
          (none-alike p (data_blocks p x) device other judged.done
          (λ l j some. all l j (done-counted _ _ _ l j judged.next some)) judged.same);
    }
judges-alike p device other x y left digest (Err (compare.SourceShort i)) planned area same read judged =
    sym (verdict-alike p device other x y digest planned area same) ∙ judged
judges-alike p device other x y left digest (Err (compare.Differs level block part)) planned area same read judged =
    sym (verdict-alike p device other x y digest planned area same) ∙ judged
judges-alike p device other x y left digest (Err (compare.RootDiffers computed)) planned area same read judged =
    sym (verdict-alike p device other x y digest planned area same) ∙ judged
judges-alike p device other x y left digest (Ok right) planned area same read judged =
    sym (verdict-alike p device other x y digest planned area same) ∙ judged

compares-alike : (input : VerifyInput) (device other x y left : List ℕ) (result : Result Unit CompareFault)
    → IsPlanIfGiven input → AreAlike input device other x y → Compares input device x left result
    → (rest : List ℕ) × Compares input other y rest result
compares-alike input device other x y left result given alike compared =
    let p = compared.plan in
    let digest = compared.root in
    let area = alike.area p digest compared.trusted in
    let same = alike.covered p digest compared.trusted in
    let planned = trusted-planned input device p digest given compared.trusted in
    let read = reads-alike p result x y left same compared.read in (
      read.0,
      record {
        plan = p;
        root = digest;
        trusted = trusted-there input device other p digest alike.superblock compared.trusted;
        verdict = judges-alike p device other x y left digest result planned area same compared.read compared.verdict;
        read = read.1;
      },
    )

-- whatever a run can end with, a run over what is alike can too
pub verifies-alike : {X : Type 0} (input : VerifyInput) (device other x y left : List ℕ) (outcome : Result X Fault)
    → IsPlanIfGiven input → AreAlike input device other x y → Verifies input device x left outcome
    → (rest : List ℕ) × Verifies input other y rest outcome
verifies-alike input device other x y left (Ok done) given alike verifies =
    compares-alike input device other x y left (Ok tt) given alike verifies
verifies-alike input device other x y left (Err fault.Store) given alike verifies =
    let plan = verifies.0.0 in
    let digest = verifies.0.1 in
    (y, ((plan, digest, trusted-there input device other plan digest alike.superblock verifies.0.2), refl))
verifies-alike input device other x y left (Err (fault.Compare cause)) given alike verifies =
    compares-alike input device other x y left (Err cause) given alike verifies
verifies-alike input device other x y left (Err cause) given alike verifies =
    (y, (refused-there input device other cause alike.superblock verifies.0, refl))

-- an answer that is no failed call is the verdict
judged-verdict : (p : PlanFields) (device bytes digest : List ℕ) (result : Result Unit CompareFault)
    → IfErr result (λ cause. side_of (fault.Compare cause) ≡ None) → Judges p device bytes digest result
    → verdict p device bytes digest ≡ result
judged-verdict p device bytes digest (Ok right) called judged = judged
judged-verdict p device bytes digest (Err (compare.SourceShort i)) called judged = judged
judged-verdict p device bytes digest (Err (compare.Differs level block part)) called judged = judged
judged-verdict p device bytes digest (Err (compare.RootDiffers computed)) called judged = judged
judged-verdict p device bytes digest (Err (compare.SourceFailed i)) called judged = cc
judged-verdict p device bytes digest (Err (compare.DeviceFailed level block)) called judged = cc

compared-one : (input : VerifyInput) (device x left rest : List ℕ) (result other : Result Unit CompareFault)
    → IfErr result (λ cause. side_of (fault.Compare cause) ≡ None)
    → IfErr other (λ cause. side_of (fault.Compare cause) ≡ None) → Compares input device x left result
    → Compares input device x rest other → result ≡ other
compared-one input device x left rest result other called too this that =
    let one = trusted-one input device this.plan that.plan this.root that.root this.trusted that.trusted in
    sym (judged-verdict this.plan device x this.root result called this.verdict)
    ∙ ap (λ (p : PlanFields). verdict p device x this.root) one.0
    ∙ ap (verdict that.plan device x) one.1
    ∙ judged-verdict that.plan device x that.root other too that.verdict

-- what is compared isn't refused, if no read failed
compared-unrefused : (input : VerifyInput) (device x left : List ℕ) (result : Result Unit CompareFault) (cause : Fault)
    → Compares input device x left result → Refuses input device cause → side_of cause ≡ None → ⊥
compared-unrefused input device x left result cause compared refused called =
    let unread = trusted-unrefused input device compared.plan compared.root cause compared.trusted refused in
    let failed = ap side_of unread in
    cc

-- runs that found memory, and no call of which failed, end in one way
pub judged-one : {X : Type 0} (input : VerifyInput) (device x left rest : List ℕ) (outcome other : Result X Fault)
    → IsJudged outcome → IsJudged other → Verifies input device x left outcome → Verifies input device x rest other
    → result_err outcome ≡ result_err other
judged-one input device x left rest (Err fault.Store) other judged too this that = absurd (judged.0 refl)
judged-one input device x left rest outcome (Err fault.Store) judged too this that = absurd (too.0 refl)
judged-one input device x left rest (Ok done) (Ok end) judged too this that = refl
judged-one input device x left rest (Ok done) (Err (fault.Compare cause)) judged too this that =
    let one = compared-one input device x left rest (Ok tt) (Err cause) tt too.1 this that in
    cc
judged-one input device x left rest (Ok done) (Err cause) judged too this that =
    absurd (compared-unrefused input device x left (Ok tt) cause this that.0 too.1)
judged-one input device x left rest (Err (fault.Compare cause)) (Ok done) judged too this that =
    let one = compared-one input device x left rest (Err cause) (Ok tt) judged.1 tt this that in
    cc
judged-one input device x left rest (Err (fault.Compare cause)) (Err (fault.Compare other)) judged too this that =
    let one = compared-one input device x left rest (Err cause) (Err other) judged.1 too.1 this that in
    cc
judged-one input device x left rest (Err (fault.Compare cause)) (Err other) judged too this that =
    absurd (compared-unrefused input device x left (Err cause) other this that.0 too.1)
judged-one input device x left rest (Err cause) (Ok done) judged too this that =
    absurd (compared-unrefused input device x rest (Ok tt) cause that this.0 judged.1)
judged-one input device x left rest (Err cause) (Err (fault.Compare other)) judged too this that =
    absurd (compared-unrefused input device x rest (Err other) cause that this.0 judged.1)
judged-one input device x left rest (Err cause) (Err other) judged too this that =
    ap (λ (c : Fault). Some c) (refused-one input device cause other judged.1 too.1 this.0 that.0)
