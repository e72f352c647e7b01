use Rattle.sha_lanes.proofs.LaneWise.{own_lanes, zip_lanes}
use Rattle.sha_lanes.proofs.words32.schedule.next_word.Goals as goal

pub returns : goal.returns
returns c =
    zip_lanes _ (zip_lanes _ (zip_lanes _ c.small_sigma1.ensures (own_lanes c.fits-w7.0)) c.small_sigma0.ensures)
    (own_lanes c.fits-w16.0)
