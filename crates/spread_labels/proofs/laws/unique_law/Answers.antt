use Rattle.spread_labels.proofs.Unique.{unique_in_words}
use Rattle.spread_labels.proofs.laws.unique_law.Goals as goal

pub returns : goal.returns
returns c = unique_in_words
