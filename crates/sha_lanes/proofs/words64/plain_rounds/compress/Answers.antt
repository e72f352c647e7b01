use Rattle.{std.proofs.Common.{◌≡◌, ◌*◌, refl, ap, ◌∙◌, arith}, sha_lanes.proofs.Hash64.{rounds_start, compress_is}}
use Rattle.sha2.specs.Sha512 as S512
use Rattle.sha_lanes.proofs.words64.plain_rounds.compress.Goals as goal

pub loop-turn-init : goal.loop-turn-init
loop-turn-init c w adds = rounds_start _ _

pub loop-turn-preserved : goal.loop-turn-preserved
loop-turn-preserved c w adds =
    c.eight_rounds.ensures w _ adds (c.loop-turn.invariant w adds) ∙ ap (S512.rounds c.args.state.now w) (omega arith)

pub returns : goal.returns
returns c b adds =
    let w = S512.schedule b 64 in
    let end : 8 * c.loop-turn.turn ≡ 80 = omega arith in
    compress_is c.args.state.now w b refl (c.loop-turn.invariant w adds ∙ ap (S512.rounds c.args.state.now w) end)
