use Rattle.updown_routes.proofs.Ranks.{before_law}
use Rattle.updown_routes.proofs.laws.before_is_in_words.Goals as goal

pub returns : goal.returns
returns c = before_law
