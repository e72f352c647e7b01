-- Known bytes that are appended to twice.
use Rattle.std.proofs.{Common.{ℕ, ◌+◌, List, ◌++◌, take, drop, Option, Some, None, sym, ◌∙◌, ap, subst, append_assoc}, Math.Seq.take-add}
use Rattle.std.specs.Io.KnownBytes.{Appends}

pub appends_twice : (a b c : Option (List ℕ)) (xs ys : List ℕ) → Appends a b xs → Appends b c ys
    → Appends a c (xs ++ ys)
appends_twice None b c xs ys one two = tt
appends_twice (Some s) None c xs ys one two = absurd one
appends_twice (Some s) (Some t) None xs ys one two = absurd two
appends_twice (Some s) (Some t) (Some u) xs ys one two =
    two ∙ ap (λ r. r ++ ys) one ∙ append_assoc s xs ys

-- the first bytes of a text, and then the next
pub appends_more : (a b c : Option (List ℕ)) (text : List ℕ) (n k : ℕ) → Appends a b (take n text)
    → Appends b c (take k (drop n text)) → Appends a c (take (n + k) text)
appends_more a b c text n k one two =
    let P : List ℕ → Type 0 = λ r. Appends a c r in
    subst P (sym (take-add n k text)) (appends_twice a b c (take n text) (take k (drop n text)) one two)
