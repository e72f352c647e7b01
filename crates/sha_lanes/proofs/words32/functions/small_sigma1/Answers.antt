use Rattle.sha_lanes.proofs.LaneWise.{own_lanes, zip_lanes, splat_lanes}
use Rattle.sha_lanes.proofs.words32.functions.small_sigma1.Goals as goal

pub returns : goal.returns
returns c = zip_lanes _ (zip_lanes _ c.rotr.ensures c.rotr-2.ensures) (zip_lanes _ (own_lanes c.fits-x.0) (splat_lanes 8 10))
