use Rattle.sha_lanes.proofs.LaneWise.{zip_lanes}
use Rattle.sha_lanes.proofs.words64.functions.big_sigma0.Goals as goal

pub returns : goal.returns
returns c = zip_lanes _ (zip_lanes _ c.rotr.ensures c.rotr-2.ensures) c.rotr-3.ensures
