use Rattle.spread_labels.proofs.Sides.{sides_in_words}
use Rattle.spread_labels.proofs.laws.sides_law.Goals as goal

pub returns : goal.returns
returns c = sides_in_words
