-- The command that a parse enters is one of the program's own.
use Rattle.std.proofs.Common.{◌≡◌, ◌≢◌, ◌∙◌, ap, ap₂, refl, sym, subst, Bool, true, false, cond, List, [], ◌∷◌, map, Option, Some, None, option_map}
use Rattle.std.{proofs.{Common.{inl, inr, ◌⊎◌}, lemmas.Bool.or_right}, specs.{Prelude.Box, Box.box_value, List.find}}
use Rattle.clap.specs.Words.{App, HasMatchesOf, Row, Shape, Text, built, is_simple, subcommand_name_of, subcommand_of, subcommand_rows}
use Rattle.clap.specs.{Words.{subcommand_rows_of, with_subcommand}, Walk.answers_to, declared.parser.matches.ArgMatches.ArgMatches}
use Rattle.clap.specs.Simple.{built_above, built_leaf, entered, help_shape, inherited, label_of, marked_built, on_top, rows_at, with_built_subs}
use Rattle.clap.specs.Simple.{with_filled_rules, with_help_flag, with_inherited, with_leaf_noted, with_version_flag}
use Rattle.clap.specs.declared.parser.matches.{ArgMatches.TheViews.{out-ArgMatches, out-SubCommand}, SubCommand.SubCommand}

-- x is one of the list
abbrev pub IsOneOf : {X : Type 0} → X → List X → Type 0
IsOneOf x [] = ⊥
IsOneOf x (y ∷ ys) = (y ≡ x) ⊎ IsOneOf x ys

found_next : {X Y : Type 0} (f : X → Y) (y x : X) (ys : List Y) (b : Bool) (o : Option X)
    → (o ≡ Some x → IsOneOf (f x) ys)
    → cond b (Some y) o ≡ Some x → (f y ≡ f x) ⊎ IsOneOf (f x) ys
found_next f y x ys true o rest e = let same : y ≡ x = cc in inl (ap f same)
found_next f y x ys false o rest e = inr (rest e)

-- what a search finds is in the list
pub found_is_listed : {X Y : Type 0} (f : X → Y) (test : X → Bool) (xs : List X) (x : X) → find test xs ≡ Some x
    → IsOneOf (f x) (map f xs)
found_is_listed f test [] x e = cc
found_is_listed f test (y ∷ ys) x e = found_next f y x (map f ys) (test y) (find test ys) (found_is_listed f test ys x) e

-- the names of the subcommands
abbrev pub sub_names : App → List Text
sub_names a = map (λ (s : Shape). s.name) a.subs

entered_found : (a : App) (p : Text × List Text) (met : Text × List Row) (o : Option Shape)
    → find (λ s. answers_to p.0 (label_of s)) a.subs ≡ o
    → option_map (λ s. rows_at s p.1) o ≡ Some met → IsOneOf met.0 (sub_names a)
entered_found a p met None f e = cc
entered_found a p met (Some s) f e =
    let same : rows_at s p.1 ≡ met = cc in
    subst (λ (m : Text × List Row). IsOneOf m.0 (sub_names a)) same
    (found_is_listed (λ (s : Shape). s.name) (λ s. answers_to p.0 (label_of s)) a.subs s f)

entered_is_listed : (a : App) (stop : Option (Text × List Text)) (met : Text × List Row)
    → entered a stop ≡ Some met → IsOneOf met.0 (sub_names a)
entered_is_listed a None met e = cc
entered_is_listed a (Some p) met e = entered_found a p met _ refl e

-- the subcommand that the words name is one of those that the built command has
pub met_is_listed : (a : App) (words : List Text) (met : Text × List Row) → subcommand_of a words ≡ Some met
    → IsOneOf met.0 (sub_names (built a))
met_is_listed a words met e = entered_is_listed (built a) _ met e

-- name and rows of the subcommand of some matches, from those of a call of `subcommand`
pub met_both : {Z : Type 0} (o : Option (Box SubCommand Z)) (name : Text) (rows : List Row)
    → Some name ≡ option_map (λ b. (out-SubCommand (box_value b)).name.now) o
    → Some rows ≡ option_map (λ p. p.1) (subcommand_rows o)
    → subcommand_rows o ≡ Some (name, rows)
met_both None name rows named_as held_as = cc
met_both (Some b) name rows named_as held_as =
    let named : name ≡ (out-SubCommand (box_value b)).name.now = cc in
    let held : rows ≡ _ = cc in
    ap₂ (λ (n : Text) (r : List Row). Some (n, r)) (sym named) (sym held)

pub met_of : (a : App) (m : ArgMatches) (words : List Text) (name : Text) (rows : List Row) → is_simple a ≡ true
    → HasMatchesOf a words m
    → Some name ≡ subcommand_name_of m → Some rows ≡ option_map (λ p. p.1) (subcommand_rows_of m)
    → subcommand_of a words ≡ Some (name, rows)
met_of a m words name rows simple has n r = sym (has simple).1 ∙ met_both (out-ArgMatches m).subcommand name rows n r

-- the rows of the command that a parse met
pub met_rows : (o : Option (Text × List Row)) (given : List Row) → Some given ≡ option_map (λ p. p.1) o
    → (p : Text × List Row) × (o ≡ Some p) × (p.1 ≡ given)
met_rows None given e = cc
met_rows (Some p) given e = (p, refl, cc)

-- a value that no element has isn't one of the list's values
pub none_of : {X Y : Type 0} (f : X → Y) (xs : List X) (y : Y) → ((x : X) → f x ≢ y) → IsOneOf y (map f xs) → ⊥
none_of f [] y none one = one
none_of f (x ∷ xs) y none (inl e) = none x e
none_of f (x ∷ xs) y none (inr more) = none_of f xs y none more

-- ---- building keeps the names

leaf_name : (s : Shape) → (built_leaf s).name ≡ s.name
leaf_name s = go s.is_built
  where
    go : (b : Bool)
        → (cond b s (with_filled_rules (with_version_flag (with_help_flag (with_leaf_noted (marked_built s)))))).name
        ≡ s.name
    go true = refl
    go false = refl

leaf_names : (above : Shape) (subs : List Shape)
    → map (λ (s : Shape). s.name) (map built_leaf (map (inherited above) subs)) ≡ map (λ (s : Shape). s.name) subs
leaf_names above [] = refl
leaf_names above (s ∷ rest) = ap₂ ◌∷◌ (leaf_name (inherited above s)) (leaf_names above rest)

-- the subcommands of the built command are those of the app, if the command `help` is off
pub names_stay : (a : App) → a.top.disable_help_subcommand ≡ true → sub_names (built a) ≡ sub_names a
names_stay a off = go a.top.is_built
  where
    go : (b : Bool) → sub_names (cond b a (with_built_subs (built_above (on_top marked_built a)))) ≡ sub_names a
    go true = refl
    go false =
        let flagged = on_top with_version_flag (on_top with_help_flag (with_inherited (on_top with_leaf_noted (on_top marked_built a)))) in
        ap (λ b. sub_names (with_built_subs (on_top with_filled_rules (cond b flagged (with_subcommand flagged help_shape)))))
        (or_right a.top.is_leaf a.top.disable_help_subcommand off)
        ∙ leaf_names (with_leaf_noted (marked_built a.top)) a.subs

-- the subcommand that the words name is one of the app's own, for each app without the command `help`
pub met_is_own : (a : App) (words : List Text) (met : Text × List Row) → a.top.disable_help_subcommand ≡ true
    → subcommand_of a words ≡ Some met
    → IsOneOf met.0 (sub_names a)
met_is_own a words met off e = subst (IsOneOf met.0) (names_stay a off) (met_is_listed a words met e)
