use Rattle.{std.{proofs.Common.{ap, ◌∙◌}, specs.Int.{w32, rotate_left}}, sha_lanes.proofs.LaneWise.{own_lanes, zip_lanes}}
use Rattle.sha_lanes.proofs.sha_1.schedule.next_word.Goals as goal

pub returns : goal.returns
returns c =
    let mixed = zip_lanes _ (zip_lanes _ (zip_lanes _ (own_lanes c.fits-w3.0) (own_lanes c.fits-w8.0)) (own_lanes c.fits-w14.0))
    (own_lanes c.fits-w16.0) in
    record {
      long = c.rotl.ensures.long;
      value = λ j lt. c.rotl.ensures.value j lt ∙ ap (λ z. rotate_left w32 z 1) (mixed.value j lt);
    }
