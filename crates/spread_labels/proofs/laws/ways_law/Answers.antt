use Rattle.spread_labels.proofs.Following.{ways_in_words}
use Rattle.spread_labels.proofs.laws.ways_law.Goals as goal

pub returns : goal.returns
returns c = ways_in_words
