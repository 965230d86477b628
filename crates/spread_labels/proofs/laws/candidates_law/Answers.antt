use Rattle.spread_labels.proofs.Steps.{candidates_in_words}
use Rattle.spread_labels.proofs.laws.candidates_law.Goals as goal

pub returns : goal.returns
returns c = candidates_in_words
