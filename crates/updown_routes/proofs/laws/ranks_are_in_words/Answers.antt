use Rattle.updown_routes.proofs.Ranks.{rank_law}
use Rattle.updown_routes.proofs.laws.ranks_are_in_words.Goals as goal

pub returns : goal.returns
returns c = rank_law
