use Rattle.{std.{proofs.Common.{bit_xor, ap, ◌∙◌}, specs.Int.{rotate_left, w32}}, sha_instructions.proofs.Rounds1.rotl_xor}
use Rattle.sha_instructions.proofs.models.sha_1.last_word.Goals as goal

pub returns : goal.returns
returns c =
    ap (λ v. bit_xor v c.rotate_left-2.result) c.rotate_left.ensures
    ∙ (ap (bit_xor (rotate_left w32 c.args.x 1)) c.rotate_left-2.ensures ∙ rotl_xor c.args.x c.args.t c.ranges.x.fits c.ranges.t.fits)
