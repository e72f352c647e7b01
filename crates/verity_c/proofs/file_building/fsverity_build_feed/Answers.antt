use Rattle.{std.proofs.Common.◌++◌, verity_c_api.proofs.BuildingLemmas.{IsFedFileTo-at, IsFedFileTo-of}}
use Rattle.verity_c.proofs.file_building.fsverity_build_feed.Goals as goal

pub returns-in-Ok-feed-clause-fed : goal.returns-in-Ok-feed-clause-fed
returns-in-Ok-feed-clause-fed c =
    λ fed h _.
    let made = c.in-Ok.ensures.made in
    IsFedFileTo-of c.args.params.now c.in-Ok.tree.now c.feed.new.self c.feed.new.memory (fed ++ c.args.piece.now) made
    c.in-Ok-feed.ensures.settings
    (c.in-Ok-feed.ensures.fed fed (IsFedFileTo-at c.args.params.now c.in-Ok.tree.now c.args.memory.now fed made h))
