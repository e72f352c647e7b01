use Rattle.sha_lanes.proofs.LaneWise.{own_lanes, zip_lanes, map_lanes}
use Rattle.sha_lanes.proofs.words32.functions.ch.Goals as goal

pub returns : goal.returns
returns c =
    let x = own_lanes c.fits-x.0 in
    zip_lanes _ (zip_lanes _ x (own_lanes c.fits-y.0)) (zip_lanes _ (map_lanes _ x) (own_lanes c.fits-z.0))
