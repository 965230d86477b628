use Rattle.updown_routes.proofs.ComponentCosts.{down_distance_law}
use Rattle.updown_routes.proofs.laws.down_distances_are_in_words.Goals as goal

pub returns : goal.returns
returns c = down_distance_law
