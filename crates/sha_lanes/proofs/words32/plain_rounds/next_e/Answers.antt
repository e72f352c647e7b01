use Rattle.std.proofs.Common.{◌≡◌, ℕ, arith}
use Rattle.sha2.specs.Sha256 as S256
use Rattle.sha_lanes.proofs.words32.plain_rounds.next_e.Goals as goal

-- the terms of the sum in another order
in_order : (d h s c k w kw : ℕ) → kw ≡ S256.add32 w k
    → S256.add32 (S256.add32 (S256.add32 (S256.add32 h kw) d) c) s
    ≡ S256.add32 d (S256.add32 (S256.add32 (S256.add32 (S256.add32 h s) c) k) w)
in_order d h s c k w kw is = omega arith

pub returns : goal.returns
returns x a b c k w is =
    rw (x.rotate_right-3.ensures, x.rotate_right-2.ensures, x.rotate_right.ensures)
    (in_order x.args.d x.args.h (S256.big_sigma1 x.args.e) (S256.ch x.args.e x.args.f x.args.g) k w x.args.kw is)
