-- What is known is of the same settings, since each of their fields is the same.
use Rattle.std.proofs.{Common.{◌≡◌, ℕ, List, ap, eqb, length, replicate, rules, sym, take, true, ◌&&◌, ◌∙◌}, Math.Seq.take-append_seam}
use Rattle.std.{proofs.lemmas.Bool.eqb-true, specs.Cmp.{first_so, second_so, Lexicographic.same_text}}
use denote.Enum.Bare.{same_true, sameb}
use lib.Pointwise.{pointwise}
use Rattle.verity_hash.specs.contracts.algorithm.Algorithm.{the_type as algorithms}
use Rattle.verity_hash.specs.contracts.salting.SaltRule.{the_type as rules-of-salt}
use Rattle.{verity_hash.specs.Hashing.with_zeros, verity_plan.specs.Settings.{TreeSettingsFields, hash}}
use Rattle.verity_blocks.proofs.known_zeros.KnownZeros.digest.Goals as goal

same-salt : (salt other : List ℕ) → with_zeros 256 salt ≡ with_zeros 256 other → length salt ≡ length other → salt ≡ other
same-salt salt other same long = sym (take-append_seam salt _)
    ∙ (ap (take (length salt)) same ∙ (ap (λ (n : ℕ). take n (with_zeros 256 other)) long ∙ take-append_seam other _))

same-hash : (s t : TreeSettingsFields) → s.algorithm ≡ t.algorithm → s.rule ≡ t.rule → s.salt ≡ t.salt
    → s.data_block ≡ t.data_block → hash s (replicate s.data_block 0) ≡ hash t (replicate t.data_block 0)
unfolding hash
same-hash s t algorithm rule salt size = rw (algorithm, rule, salt, size) (search rules)

equal-settings : (s t : TreeSettingsFields) → (sameb algorithms s.algorithm t.algorithm
    && (sameb rules-of-salt s.rule t.rule
    && ((pointwise eqb (with_zeros 256 s.salt) (with_zeros 256 t.salt) && eqb (length s.salt) (length t.salt))
    && (eqb s.data_block t.data_block && eqb s.hash_block t.hash_block)))) ≡ true
    → hash s (replicate s.data_block 0) ≡ hash t (replicate t.data_block 0)
equal-settings s t all =
    let after = second_so _ _ all in
    let salts = second_so _ _ after in
    let salt = first_so _ _ salts in
    same-hash s t (same_true algorithms tt _ _ (first_so _ _ all))
    (same_true rules-of-salt tt _ _ (first_so _ _ after))
    (same-salt s.salt t.salt (same_text _ _ (sym (first_so _ _ salt))) (eqb-true _ _ (second_so _ _ salt)))
    (eqb-true _ _ (first_so _ _ (second_so _ _ salts)))

pub returns-then-eq : goal.returns-then-eq
returns-then-eq c =
    (rw c.in-Some.is at c.self.invariant)
    ∙ (equal-settings c.in-Some.known.now c.args.settings.now (sym c.eq.ensures ∙ c.if-eq.true)
    ∙ ap (hash c.args.settings.now) (sym c.requires))
