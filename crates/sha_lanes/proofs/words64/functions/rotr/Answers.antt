use Rattle.{std.proofs.Common.◌-◌, sha_lanes.proofs.{LaneWise.{own_lanes, zip_lanes, splat_lanes, as_lanes}, Hash64.rotate_right_below}}
use Rattle.sha_lanes.proofs.words64.functions.rotr.Goals as goal

pub returns : goal.returns
returns c =
    let x = own_lanes c.fits-x.0 in
    as_lanes (zip_lanes _ (zip_lanes _ x (splat_lanes 4 c.args.n)) (zip_lanes _ x (splat_lanes 4 (64 - c.args.n))))
    (λ j. rotate_right_below _ c.args.n c.requires.0 c.requires.1)
