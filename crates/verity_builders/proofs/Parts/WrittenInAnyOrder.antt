-- In whatever order the blocks of a tree are put at their places, the device is the same.
use Rattle.std.proofs.Common.{◌≡◌, ℕ, ◌+◌, ◌-◌, ◌*◌, ◌<◌, ◌≤◌, ◌⊎◌, ◌↔◌, List, [], ◌∷◌, ◌++◌, length, get_or, arith, refl, sym, subst, ◌∙◌, ap, inl}
use Rattle.std.proofs.{Common.inr, lemmas.{Bool.{cases_Bool, cases_lt, Decides.nat_tests}, List.{ext_get_or, places, Sums.sum_by-append}}}
use Rattle.{std.specs.Prelude.{◌==◌, ◌&&◌, cond}, verity_io.specs.Writing.put, verity_plan.proofs.{FanLemmas.fan-some, FitLemmas.fan-fits}}
use Rattle.verity_plan.specs.{Plans.{IsPlan, IsTreeBlock, PlanFields, start_byte}, Settings.{TreeSettingsFields, fan, slot_width}}
use Rattle.verity_blocks.{proofs.Levels.CutBlocks.length-cut, specs.{ClosingOrder.{BlockIndex, block_index, closed_after, times}, Levels.data_blocks}}
use Rattle.verity_blocks.{specs.{TreeOnDevice.tree_block, TreeWriting.{device_with, tree_on_device}}, proofs.Order.ClosesOnce.ClosesOnce-all}
use Rattle.verity_blocks.proofs.Order.TimesCounted.{times-cases, times-first, times-more}
use Rattle.verity_blocks.proofs.Order.PlacedBlocks.{apart, length-put, length-tree_block, put-byte}

-- bytes that are put stand there
put-at : (device : List ℕ) (at : ℕ) (bytes : List ℕ) (i : ℕ) → at ≤ i → i < at + length bytes
    → get_or (put device at bytes) i 0 ≡ get_or bytes (i - at) 0
put-at device at bytes i from to = grind (arith, places)

-- a place is outside a range, or in it
beside : (at size i : ℕ) → ((i < at) ⊎ (at + size ≤ i)) ⊎ ((at ≤ i) × (i < at + size))
beside at size i = elim (cases_lt i at) [
  | inl low ↦ inl (inl low)
  | inr from ↦ elim (cases_lt i (at + size)) [ inl to ↦ inr (from, to) | inr past ↦ inl (inr past) ]
]

-- two puts that don't overlap, in either order
put-comm : (device : List ℕ) (a b : ℕ) (xs ys : List ℕ) → (a + length xs ≤ b) ⊎ (b + length ys ≤ a)
    → put (put device a xs) b ys ≡ put (put device b ys) a xs
put-comm device a b xs ys apart =
    let left = put (put device a xs) b ys in
    let right = put (put device b ys) a xs in
    let long : length left ≡ length right =
    omega (
      arith,
      length-put (put device a xs) b ys,
      length-put device a xs,
      length-put (put device b ys) a xs,
      length-put device b ys,
    ) in
    ext_get_or 0 left right long (λ i _. elim (beside a (length xs) i) [
      | inl out ↦ elim (beside b (length ys) i) [
        | inl past ↦
            put-byte (put device a xs) b ys i past
            ∙ put-byte device a xs i out
            ∙ sym (put-byte (put device b ys) a xs i out ∙ put-byte device b ys i past)
        | inr there ↦
            put-at (put device a xs) b ys i there.0 there.1
            ∙ sym (put-byte (put device b ys) a xs i out ∙ put-at device b ys i there.0 there.1)
      ]
      | inr here ↦
          let past : (i < b) ⊎ (b + length ys ≤ i) = elim apart [
            | inl low ↦ inl (omega (arith, low, here.1))
            | inr high ↦ inr (omega (arith, high, here.0))
          ] in
          put-byte (put device a xs) b ys i past
          ∙ put-at device a xs i here.0 here.1
          ∙ sym (put-at (put device b ys) a xs i here.0 here.1)
    ])

-- a put of the same bytes once more
put-again : (device : List ℕ) (a : ℕ) (xs : List ℕ) → put (put device a xs) a xs ≡ put device a xs
put-again device a xs =
    let one = put device a xs in
    ext_get_or 0 (put one a xs) one (omega (arith, length-put one a xs, length-put device a xs))
    (λ i _. elim (beside a (length xs) i) [
      | inl out ↦ put-byte one a xs i out
      | inr here ↦ put-at one a xs i here.0 here.1 ∙ sym (put-at device a xs i here.0 here.1)
    ])

-- two blocks of the tree that are put, in either order
blocks-comm : (s : TreeSettingsFields) (blocks : List (List ℕ)) (base : ℕ) (x y : BlockIndex) (device : List ℕ)
    → fan s * slot_width s ≤ s.hash_block → IsTreeBlock (fan s) (length blocks) x.level x.index
    → IsTreeBlock (fan s) (length blocks) y.level y.index
    → device_with s blocks base (x ∷ y ∷ []) device ≡ device_with s blocks base (y ∷ x ∷ []) device
unfolding device_with
blocks-comm s blocks base x y device room of_x of_y =
    let n = length blocks in
    let long_x = length-tree_block s blocks x.level x.index room of_x in
    let long_y = length-tree_block s blocks y.level y.index room of_y in
    let a = start_byte s n base x.level x.index in
    let b = start_byte s n base y.level y.index in
    elim (apart s n base x.level x.index y.level y.index of_x of_y) [
      | inl same ↦ let level = same.0 in let index = same.1 in rw (level, index) refl
      | inr out ↦
          put-comm device a b (tree_block s blocks x.level x.index) (tree_block s blocks y.level y.index)
          (rw (long_x, long_y) out)
    ]

-- a block that is put before some others, or after them
to-front : (s : TreeSettingsFields) (blocks : List (List ℕ)) (base : ℕ) (x : BlockIndex)
    → fan s * slot_width s ≤ s.hash_block
    → IsTreeBlock (fan s) (length blocks) x.level x.index → (before after : List BlockIndex) (device : List ℕ)
    → ((l j : ℕ) → 0 < times l j before → IsTreeBlock (fan s) (length blocks) l j)
    → device_with s blocks base (before ++ x ∷ after) device ≡ device_with s blocks base (x ∷ before ++ after) device
unfolding device_with
to-front s blocks base x room of_x [] after device tree = refl
to-front s blocks base x room of_x (y ∷ before) after device tree =
    let own = tree y.level y.index (times-first y before) in
    to-front s blocks base x room of_x before after
    (put device (start_byte s (length blocks) base y.level y.index) (tree_block s blocks y.level y.index))
    (λ l j some. tree l j (omega (arith, some, times-more l j y before)))
    ∙ ap (device_with s blocks base (before ++ after)) (blocks-comm s blocks base y x device room own of_x)

-- a block that is counted stands somewhere in the list
found : (l j : ℕ) (all : List BlockIndex) → 0 < times l j all
    → (before : List BlockIndex) × (after : List BlockIndex) × (all ≡ before ++ block_index l j ∷ after)
found l j [] some = absurd (omega (arith, some))
found l j (x ∷ rest) some = elim (times-cases l j x rest some) [
  | inl here ↦ let level = here.0 in let index = here.1 in ([], rest, rw (← level, ← index) refl)
  | inr later ↦
      let more = found l j rest later in
      (x ∷ more.0, more.1, ap (λ (xs : List BlockIndex). x ∷ xs) more.2)
]

-- one block, counted among others
times-middle : (l j : ℕ) (x : BlockIndex) (before after : List BlockIndex)
    → times l j (before ++ x ∷ after) ≡ times l j (x ∷ before ++ after)
times-middle l j x before after =
    let one : BlockIndex → ℕ = λ at. cond ((at.level == l) && (at.index == j)) 1 0 in
    omega (
      arith,
      sum_by-append one before (x ∷ after),
      sum_by-append one before after,
      times-more l j x after,
      times-more l j x (before ++ after),
    )

-- lists that have each block equally often leave one device
same-device : (s : TreeSettingsFields) (blocks : List (List ℕ)) (base : ℕ) → fan s * slot_width s ≤ s.hash_block
    → (xs ys : List BlockIndex) (device : List ℕ)
    → ((l j : ℕ) → 0 < times l j xs → IsTreeBlock (fan s) (length blocks) l j)
    → ((l j : ℕ) → times l j xs ≡ times l j ys)
    → device_with s blocks base xs device ≡ device_with s blocks base ys device
unfolding device_with
same-device s blocks base room [] [] device tree same = refl
same-device s blocks base room [] (y ∷ ys) device tree same =
    absurd (omega (arith, same y.level y.index, times-first y ys))
same-device s blocks base room (x ∷ xs) ys device tree same =
    let own = tree x.level x.index (times-first x xs) in
    let at = found x.level x.index ys (omega (arith, same x.level x.index, times-first x xs)) in
    let before = at.0 in
    let after = at.1 in
    let is : ys ≡ before ++ x ∷ after = at.2 in
    let count : (l j : ℕ) → times l j (x ∷ xs) ≡ times l j (x ∷ before ++ after) = λ l j.
    same l j ∙ ap (times l j) is ∙ times-middle l j x before after in
    let rest : (l j : ℕ) → times l j xs ≡ times l j (before ++ after) = λ l j.
    omega (arith, count l j, times-more l j x xs, times-more l j x (before ++ after)) in
    let one : ℕ → ℕ → BlockIndex → ℕ = λ l j block. cond ((block.level == l) && (block.index == j)) 1 0 in
    same-device s blocks base room xs (before ++ after)
    (put device (start_byte s (length blocks) base x.level x.index) (tree_block s blocks x.level x.index))
    (λ l j some. tree l j (omega (arith, some, times-more l j x xs))) rest
    ∙ sym (ap (λ (all : List BlockIndex). device_with s blocks base all device) is
    ∙ to-front s blocks base x room own before after device (λ l j some.
    tree l j (omega (
      arith,
      some,
      count l j,
      times-more l j x (before ++ after),
      sum_by-append (one l j) before after,
    ))))

-- a block that is put twice is put once
block-again : (s : TreeSettingsFields) (blocks : List (List ℕ)) (base : ℕ) (x : BlockIndex) (device : List ℕ)
    → device_with s blocks base (x ∷ x ∷ []) device ≡ device_with s blocks base (x ∷ []) device
unfolding device_with
block-again s blocks base x device =
    put-again device (start_byte s (length blocks) base x.level x.index) (tree_block s blocks x.level x.index)

-- a block that is put once more, before others among which it is
already-there : (s : TreeSettingsFields) (blocks : List (List ℕ)) (base : ℕ) (x : BlockIndex) (rest : List BlockIndex)
    (device : List ℕ) → fan s * slot_width s ≤ s.hash_block
    → ((l j : ℕ) → 0 < times l j rest → IsTreeBlock (fan s) (length blocks) l j) → 0 < times x.level x.index rest
    → device_with s blocks base (x ∷ rest) device ≡ device_with s blocks base rest device
unfolding device_with
already-there s blocks base x rest device room tree there =
    let one : ℕ → ℕ → BlockIndex → ℕ = λ l j block. cond ((block.level == l) && (block.index == j)) 1 0 in
    let at = found x.level x.index rest there in
    let before = at.0 in
    let after = at.1 in
    let is : rest ≡ before ++ x ∷ after = at.2 in
    let first : (to : List ℕ) → device_with s blocks base rest to ≡ device_with s blocks base (x ∷ before ++ after) to =
    λ to.
    ap (λ (all : List BlockIndex). device_with s blocks base all to) is
    ∙ to-front s blocks base x room (tree x.level x.index there) before after to (λ l j some.
    tree l j (omega (arith, some, ap (times l j) is, sum_by-append (one l j) before (x ∷ after)))) in
    first (put device (start_byte s (length blocks) base x.level x.index) (tree_block s blocks x.level x.index))
    ∙ ap (device_with s blocks base (before ++ after)) (block-again s blocks base x device)
    ∙ sym (first device)

-- one block more is counted, or isn't
times-split : (l j : ℕ) (x : BlockIndex) (ys : List BlockIndex)
    → ((x.level ≡ l) × (x.index ≡ j) × (times l j (x ∷ ys) ≡ times l j ys + 1)) ⊎ (times l j (x ∷ ys) ≡ times l j ys)
times-split l j x ys = elim (cases_Bool ((x.level == l) && (x.index == j))) [
  | inl is ↦
      let level : x.level ≡ l = grind (arith, nat_tests, is) in
      let index : x.index ≡ j = grind (arith, nat_tests, is) in
      inl (level, index, grind (arith, is, times-more l j x ys))
  | inr other ↦ inr (grind (arith, other, times-more l j x ys))
]

times-here : (l j : ℕ) (x : BlockIndex) (ys : List BlockIndex) → x.level ≡ l → x.index ≡ j → 0 < times l j (x ∷ ys)
times-here l j x ys level index = grind (arith, nat_tests, level, index, times-more l j x ys)

-- some blocks without those that come again
pub record HasNoneAgain (s : TreeSettingsFields) (blocks : List (List ℕ)) (base : ℕ)
    (xs ys : List BlockIndex) : Type 0 where
  pub most : (l j : ℕ) → times l j ys ≤ 1
  pub all : (l j : ℕ) → 0 < times l j xs → 0 < times l j ys
  pub only : (l j : ℕ) → 0 < times l j ys → 0 < times l j xs
  pub stands : (device : List ℕ) → device_with s blocks base xs device ≡ device_with s blocks base ys device

-- a block more that is none of them
none-again-more : (s : TreeSettingsFields) (blocks : List (List ℕ)) (base : ℕ) (x : BlockIndex)
    (xs ys : List BlockIndex)
    → times x.level x.index xs ≡ 0 → HasNoneAgain s blocks base xs ys → HasNoneAgain s blocks base (x ∷ xs) (x ∷ ys)
unfolding device_with
none-again-more s blocks base x xs ys none h = record {
  most = λ l j. elim (times-split l j x ys) [
    | inl here ↦
        let level = here.0 in
        let index = here.1 in
        let absent : times l j xs ≡ 0 = rw (← level, ← index) none in
        elim (cases_lt 0 (times l j ys)) [
          | inl some ↦ absurd (omega (arith, h.only l j some, absent))
          | inr free ↦ omega (arith, free, here.2)
        ]
    | inr other ↦ omega (arith, other, h.most l j)
  ];
  all = λ l j some. elim (times-cases l j x xs some) [
    | inl here ↦ times-here l j x ys here.0 here.1
    | inr later ↦ omega (arith, h.all l j later, times-more l j x ys)
  ];
  only = λ l j some. elim (times-cases l j x ys some) [
    | inl here ↦ times-here l j x xs here.0 here.1
    | inr later ↦ omega (arith, h.only l j later, times-more l j x xs)
  ];
  stands = λ device.
      h.stands (put device (start_byte s (length blocks) base x.level x.index) (tree_block s blocks x.level x.index));
}

-- of all blocks of a tree
none-again : (s : TreeSettingsFields) (blocks : List (List ℕ)) (base : ℕ) → fan s * slot_width s ≤ s.hash_block
    → (xs : List BlockIndex) → ((l j : ℕ) → 0 < times l j xs → IsTreeBlock (fan s) (length blocks) l j)
    → (ys : List BlockIndex) × HasNoneAgain s blocks base xs ys
none-again s blocks base room [] tree = (
  [],
  record { most = λ l j. omega arith; all = λ l j some. some; only = λ l j some. some; stands = λ device. refl },
)
none-again s blocks base room (x ∷ xs) tree =
    let of_rest : (l j : ℕ) → 0 < times l j xs → IsTreeBlock (fan s) (length blocks) l j = λ l j some.
    tree l j (omega (arith, some, times-more l j x xs)) in
    let fewer = none-again s blocks base room xs of_rest in
    let ys = fewer.0 in
    let h = fewer.1 in
    elim (cases_lt 0 (times x.level x.index xs)) [
      | inl again ↦ (
        ys,
        record {
          most = h.most;
          all = λ l j some. elim (times-cases l j x xs some) [
            | inl here ↦ let level = here.0 in let index = here.1 in rw (← level, ← index) (h.all x.level x.index again)
            | inr later ↦ h.all l j later
          ];
          only = λ l j some. omega (arith, h.only l j some, times-more l j x xs);
          stands = λ device. already-there s blocks base x xs device room of_rest again ∙ h.stands device;
        },
      )
      | inr none ↦ (x ∷ ys, none-again-more s blocks base x xs ys (omega (arith, none)) h)
    ]

-- the tree's blocks, each at least once and nothing else, in any order
pub any-order : (p : PlanFields) (order : List BlockIndex) (bytes device : List ℕ) → IsPlan p
    → ((l j : ℕ) → 0 < times l j order ↔ 0 < times l j (closed_after (fan p.settings) p.blocks p.blocks))
    → device_with p.settings (data_blocks p bytes) p.base order device ≡ tree_on_device p (data_blocks p bytes) device
any-order p order bytes device planned same =
    let s = p.settings in
    let f = fan s in
    let n = p.blocks in
    let blocks = data_blocks p bytes in
    let many : length blocks ≡ n = length-cut s n p.wanted bytes in
    let once = ClosesOnce-all f n (fan-some s) in
    let all = closed_after f n n in
    let tree : (l j : ℕ) → 0 < times l j order → IsTreeBlock f (length blocks) l j = λ l j some.
    subst (λ (m : ℕ). IsTreeBlock f m l j) (sym many) (once.only l j ((same l j).0 some)) in
    let fewer = none-again s blocks p.base (fan-fits s planned.valid) order tree in
    let ys = fewer.0 in
    let h = fewer.1 in
    let count : (l j : ℕ) → times l j ys ≡ times l j all = λ l j. elim (cases_lt 0 (times l j ys)) [
      | inl some ↦
          let there = (same l j).0 (h.only l j some) in
          omega (arith, h.most l j, some, once.once l j (once.only l j there))
      | inr none ↦ elim (cases_lt 0 (times l j all)) [
        | inl there ↦ absurd (omega (arith, none, h.all l j ((same l j).1 there)))
        | inr absent ↦ omega (arith, none, absent)
      ]
    ] in
    h.stands device
    ∙ same-device s blocks p.base (fan-fits s planned.valid) ys all device
    (λ l j some. tree l j (h.only l j some)) count
