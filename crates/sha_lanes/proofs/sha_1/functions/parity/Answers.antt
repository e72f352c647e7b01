use Rattle.sha_lanes.proofs.LaneWise.{own_lanes, zip_lanes}
use Rattle.sha_lanes.proofs.sha_1.functions.parity.Goals as goal

pub returns : goal.returns
returns c = zip_lanes _ (zip_lanes _ (own_lanes c.fits-x.0) (own_lanes c.fits-y.0)) (own_lanes c.fits-z.0)
