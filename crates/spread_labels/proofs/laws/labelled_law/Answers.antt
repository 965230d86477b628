use Rattle.spread_labels.proofs.Rounds.{labelled_in_words}
use Rattle.spread_labels.proofs.laws.labelled_law.Goals as goal

pub returns : goal.returns
returns c = labelled_in_words
