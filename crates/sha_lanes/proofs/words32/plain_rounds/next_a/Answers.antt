use Rattle.{std.proofs.Common.{◌≡◌, ℕ, ◌+◌, ◌-◌, ◌%◌, ◌^◌, ◌<◌, ap, ◌∙◌, arith}, sha_lanes.proofs.Majority.majority}
use Rattle.sha2.specs.Sha256 as S256
use Rattle.sha_lanes.proofs.words32.plain_rounds.next_a.Goals as goal

-- T₁ is the next e less d
less_d : (d e s m t1 : ℕ) → d < 2 ^ 32 → e ≡ S256.add32 d t1
    → S256.add32 e ((S256.add32 s (m % 2 ^ 32) + (2 ^ 32 - d)) % 2 ^ 32) ≡ S256.add32 t1 (S256.add32 s m)
less_d d e s m t1 fits is = omega arith

pub returns : goal.returns
returns x t1 is =
    rw (x.rotate_right-3.ensures, x.rotate_right-2.ensures, x.rotate_right.ensures)
    (less_d x.args.d x.args.new_e (S256.big_sigma0 x.args.a) _ t1 (omega arith) is
    ∙ ap (λ m. S256.add32 t1 (S256.add32 (S256.big_sigma0 x.args.a) m)) (majority x.args.a x.args.b x.args.c))
