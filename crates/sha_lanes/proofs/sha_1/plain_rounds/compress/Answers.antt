use Rattle.{std.proofs.Common.refl, sha_lanes.proofs.HashSha1.{rounds_start, compress_is}}
use Rattle.sha1.specs.Sha1 as S1
use Rattle.sha_lanes.proofs.sha_1.plain_rounds.compress.Goals as goal

pub returns : goal.returns
returns c b adds =
    let h = c.args.state.now in
    let w = S1.schedule b 64 in
    let first = c.twenty_rounds.ensures w h adds (rounds_start h w) in
    let second = c.twenty_rounds-2.ensures w h adds first in
    let third = c.twenty_rounds-3.ensures w h adds second in
    compress_is h w b refl (c.twenty_rounds-4.ensures w h adds third)
