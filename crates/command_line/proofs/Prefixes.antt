-- Texts of which the first bytes were written.
use Rattle.std.proofs.Common.{◌≡◌, ℕ, zero, suc, ◌+◌, ◌<◌, add-one, get_or, List, [], ◌∷◌, ◌++◌, length, take, drop, Option, Some, None, Result, Ok}
use Rattle.std.proofs.{Common.{Err, OnOk, IfErr, sym, ◌∙◌, ap, subst, arith, append-nil, append_assoc, refl, inl, inr}, lemmas.Grind.flat_map-append}
use Rattle.std.proofs.{lemmas.{List.{take_all, take-append-le, take-append-drop}, Option.slice_get-get_or, Bool.cases_lt}, Math.Seq.take-append-add}
use Rattle.{std.specs.{Prelude.slice_get, List.flat_map, Io.KnownBytes.{Appends, Keeps}}, command_line.specs.Writing.AppendsPrefix}
use Rattle.verity_io.{proofs.KnownLemmas.appends_twice, specs.{Putting.bytes_taken, declared.putting.PutFault.PutFault}}

-- nothing was written
pub appends_nothing : (held : Option (List ℕ)) → Appends held held []
appends_nothing None = tt
appends_nothing (Some bytes) = sym (append-nil bytes)

pub Keeps-refl : (held : Option (List ℕ)) → Keeps held held
Keeps-refl None = tt
Keeps-refl (Some bytes) = refl

pub appends_kept : (before after : Option (List ℕ)) → Keeps before after → Appends before after []
appends_kept None after kept = tt
appends_kept (Some xs) None kept = absurd kept
appends_kept (Some xs) (Some ys) kept = kept ∙ sym (append-nil xs)

-- all of the text was written
pub prefix_whole : (text : List ℕ) (before after : Option (List ℕ)) → Appends before after text
    → AppendsPrefix text before after
prefix_whole text before after whole =
    let all : take (length text) text ≡ text = take_all (length text) text (omega arith) in
    (length text, rw all whole)

-- all of the text or its first bytes were written
pub prefix_of : (r : Result (Unit {0}) PutFault) (text : List ℕ) (before after : Option (List ℕ))
    → OnOk r (Appends before after text) →
    IfErr r (λ fault. Appends before after (take (bytes_taken fault) text)) → AppendsPrefix text before after
prefix_of (Ok done) text before after whole part = prefix_whole text before after whole
prefix_of (Err fault) text before after whole part = (bytes_taken fault, part)

-- a prefix of the first piece
pub prefix_less : (xs ys : List ℕ) (a b : Option (List ℕ)) → AppendsPrefix xs a b → AppendsPrefix (xs ++ ys) a b
prefix_less xs ys a b prefix =
    elim (cases_lt prefix.0 (length xs)) [
      | inl short ↦
          let same : take prefix.0 (xs ++ ys) ≡ take prefix.0 xs = take-append-le prefix.0 xs ys (omega arith) in
          (prefix.0, rw same prefix.1)
      | inr long ↦
          let same : take (length xs) (xs ++ ys) ≡ take prefix.0 xs
          = take-append-le (length xs) xs ys (omega arith) ∙ take_all (length xs) xs (omega arith)
          ∙ sym (take_all prefix.0 xs long) in
          (length xs, rw same prefix.1)
    ]

-- the first piece, and a prefix of the next
pub prefix_more : (xs ys : List ℕ) (a b c : Option (List ℕ)) → Appends a b xs → AppendsPrefix ys b c
    → AppendsPrefix (xs ++ ys) a c
prefix_more xs ys a b c first prefix = (
  length xs + prefix.0,
  rw (take-append-add xs ys prefix.0)
      (appends_twice a b c xs (take prefix.0 ys) first prefix.1),
)

-- one more element in a list of pieces
pub pieces_more : {A : Type 0} (f : A → List ℕ) (xs : List A) (i : ℕ) (x : A) → slice_get xs i ≡ Some x →
    flat_map f (take (i + 1) xs) ≡ flat_map f (take i xs) ++ f x
pieces_more f [] i x is = absurd cc
pieces_more f (y ∷ ys) zero x is =
    let same : y ≡ x = cc in
    rw same (append-nil (f x))
pieces_more f (y ∷ ys) (suc i) x is =
    let next : flat_map f (take (i + 1) ys) ≡ flat_map f (take i ys) ++ f x = pieces_more f ys i x is in
    rw add-one (ap (λ r. f y ++ r) (rw add-one at next) ∙ sym (append_assoc (f y) (flat_map f (take i ys)) (f x)))

-- the pieces before one of them, and that one
pub pieces_whole : {A : Type 0} (f : A → List ℕ) (xs : List A) (i : ℕ) (d : A) (a b c : Option (List ℕ))
    → i < length xs →
    Appends a b (flat_map f (take i xs)) → Appends b c (f (get_or xs i d)) → Appends a c (flat_map f (take (i + 1) xs))
pieces_whole f xs i d a b c within before whole =
    rw (pieces_more f xs i (get_or xs i d) (slice_get-get_or xs i d within))
    (appends_twice a b c (flat_map f (take i xs)) (f (get_or xs i d)) before whole)

-- the pieces before one of them, and a prefix of that one
pub pieces_prefix : {A : Type 0} (f : A → List ℕ) (xs : List A) (i : ℕ) (d : A) (a b c : Option (List ℕ))
    → i < length xs →
    Appends a b (flat_map f (take i xs)) → AppendsPrefix (f (get_or xs i d)) b c → AppendsPrefix (flat_map f xs) a c
pieces_prefix f xs i d a b c within before prefix =
    let all : flat_map f (take (i + 1) xs) ++ flat_map f (drop (i + 1) xs) ≡ flat_map f xs
    = sym (flat_map-append f (take (i + 1) xs) (drop (i + 1) xs)) ∙ ap (flat_map f) (take-append-drop (i + 1) xs) in
    let so_far : AppendsPrefix (flat_map f (take (i + 1) xs)) a c
    = rw (pieces_more f xs i (get_or xs i d) (slice_get-get_or xs i d within))
    (prefix_more (flat_map f (take i xs)) (f (get_or xs i d)) a b c before prefix) in
    subst (λ (t : List ℕ). AppendsPrefix t a c) all
    (prefix_less (flat_map f (take (i + 1) xs)) (flat_map f (drop (i + 1) xs)) a c so_far)
