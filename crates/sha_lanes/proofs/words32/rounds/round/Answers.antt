use Rattle.sha_lanes.proofs.{LaneWise.{own_lanes, zip_lanes, splat_lanes}, Hash32.round_of}
use Rattle.sha_lanes.proofs.words32.rounds.round.Goals as goal

pub returns : goal.returns
returns c j lt =
    let t1 = zip_lanes _ (zip_lanes _ (zip_lanes _ (zip_lanes _ (own_lanes c.fits-h.0) c.big_sigma1.ensures) c.ch.ensures)
    (splat_lanes 8 c.args.k)) (own_lanes c.fits-w.0) in
    let t2 = zip_lanes _ c.big_sigma0.ensures c.maj.ensures in
    let d' = zip_lanes _ (own_lanes c.fits-d.0) t1 in
    let h' = zip_lanes _ t1 t2 in
    round_of _ _ _ _ _ _ _ _ _ _ (h'.value j lt) (d'.value j lt)
