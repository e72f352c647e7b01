use Rattle.sha_lanes.proofs.LaneWise.{own_lanes, zip_lanes}
use Rattle.sha_lanes.proofs.words64.functions.add.Goals as goal

pub returns : goal.returns
returns c = zip_lanes _ (own_lanes c.fits-x.0) (own_lanes c.fits-y.0)
