use Rattle.updown_routes.proofs.LeastCosts.{cost_law}
use Rattle.updown_routes.proofs.laws.costs_are_in_words.Goals as goal

pub returns : goal.returns
returns c = cost_law
