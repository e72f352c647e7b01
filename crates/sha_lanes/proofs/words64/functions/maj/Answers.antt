use Rattle.sha_lanes.proofs.LaneWise.{own_lanes, zip_lanes}
use Rattle.sha_lanes.proofs.words64.functions.maj.Goals as goal

pub returns : goal.returns
returns c =
    let x = own_lanes c.fits-x.0 in
    let y = own_lanes c.fits-y.0 in
    let z = own_lanes c.fits-z.0 in
    zip_lanes _ (zip_lanes _ (zip_lanes _ x y) (zip_lanes _ x z)) (zip_lanes _ y z)
