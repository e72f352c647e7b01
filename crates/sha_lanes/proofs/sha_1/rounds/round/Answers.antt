use Rattle.sha_lanes.proofs.{LaneWise.{own_lanes, zip_lanes, splat_lanes, as_lanes}, HashSha1.round_of}
use Rattle.sha_lanes.proofs.sha_1.rounds.round.Goals as goal

pub returns : goal.returns
returns c j lt =
    let k = as_lanes (splat_lanes 8 c.constant.result) (λ i. c.constant.ensures) in
    let t = zip_lanes _ (zip_lanes _ (zip_lanes _ (zip_lanes _ c.rotl.ensures c.function.ensures) (own_lanes c.fits-e.0)) k)
    (own_lanes c.fits-w.0) in
    round_of _ _ _ _ _ _ _ _ (t.value j lt) (c.rotl-2.ensures.value j lt)
