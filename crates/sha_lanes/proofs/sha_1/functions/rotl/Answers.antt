use Rattle.{std.proofs.Common.◌-◌, sha_lanes.proofs.{LaneWise.{own_lanes, zip_lanes, splat_lanes, as_lanes}, HashSha1.rotate_left_below}}
use Rattle.sha_lanes.proofs.sha_1.functions.rotl.Goals as goal

pub returns : goal.returns
returns c =
    let x = own_lanes c.fits-x.0 in
    as_lanes (zip_lanes _ (zip_lanes _ x (splat_lanes 8 c.args.n)) (zip_lanes _ x (splat_lanes 8 (32 - c.args.n))))
    (λ j. rotate_left_below _ c.args.n c.requires.0 c.requires.1)
