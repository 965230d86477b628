use Rattle.spread_labels.proofs.Earliest.{keys_in_words}
use Rattle.spread_labels.proofs.laws.keys_law.Goals as goal

pub returns : goal.returns
returns c = keys_in_words
