use Rattle.spread_labels.proofs.Reach.{reached_in_words}
use Rattle.spread_labels.proofs.laws.reached_law.Goals as goal

pub returns : goal.returns
returns c = reached_in_words
