use Rattle.spread_labels.proofs.EveryPair.{every_pair_in_words}
use Rattle.spread_labels.proofs.laws.every_pair_law.Goals as goal

pub returns : goal.returns
returns c = every_pair_in_words
