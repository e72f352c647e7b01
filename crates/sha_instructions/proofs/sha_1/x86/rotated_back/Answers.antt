use Rattle.{std.{proofs.Common.{ap, ◌∙◌}, specs.Int.{rotate_left, w32}}, sha_instructions.proofs.Rounds1.rotl_back}
use Rattle.sha_instructions.proofs.sha_1.x86.rotated_back.Goals as goal

pub returns : goal.returns
returns c = ap (λ v. rotate_left w32 v 30) c.rotate_left.ensures ∙ rotl_back c.args.word c.ranges.word.fits
