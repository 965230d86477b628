use Rattle.updown_routes.proofs.Ranks.{slope_law}
use Rattle.updown_routes.proofs.laws.up_and_down_are_in_words.Goals as goal

pub returns : goal.returns
returns c = slope_law
