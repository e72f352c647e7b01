use Rattle.std.proofs.Common.{◌≡◌, ◌+◌, ◌-◌, arith}
use Rattle.verity_blocks.proofs.open_blocks.carry_up.Goals as goal

pub returns-clause-adds : goal.returns-clause-adds
returns-clause-adds c = λ blocks levels many inside room h.
    let up : c.args.level - 1 + 1 ≡ c.args.level = omega (arith, c.requires.above) in
    c.add_digest.ensures.adds blocks levels many inside (omega (arith, room, c.close_block-digest.auto.opened))
    (rw up at (c.close_block-digest.ensures.closes blocks c.args.i levels (omega (arith, inside)) room h))
