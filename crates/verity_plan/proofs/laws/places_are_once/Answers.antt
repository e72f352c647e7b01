use Rattle.verity_plan.proofs.PlaceLemmas.{PlacesAreOnce-all}
use Rattle.verity_plan.proofs.laws.places_are_once.Goals as goal

pub returns : goal.returns
returns c = PlacesAreOnce-all
