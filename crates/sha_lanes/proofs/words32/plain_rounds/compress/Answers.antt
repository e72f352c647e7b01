use Rattle.{std.proofs.Common.refl, sha_lanes.proofs.Hash32.{rounds_start, compress_is}}
use Rattle.sha2.specs.Sha256 as S256
use Rattle.sha_lanes.proofs.words32.plain_rounds.compress.Goals as goal

pub returns : goal.returns
returns c b adds =
    let s = c.args.state.now in
    let w = S256.schedule b 48 in
    let r1 = c.eight_rounds.ensures w s adds (rounds_start s w) in
    let r2 = c.eight_rounds-2.ensures w s adds r1 in
    let r3 = c.eight_rounds-3.ensures w s adds r2 in
    let r4 = c.eight_rounds-4.ensures w s adds r3 in
    let r5 = c.eight_rounds-5.ensures w s adds r4 in
    let r6 = c.eight_rounds-6.ensures w s adds r5 in
    let r7 = c.eight_rounds-7.ensures w s adds r6 in
    let r8 = c.eight_rounds-8.ensures w s adds r7 in
    compress_is s w b refl r8
