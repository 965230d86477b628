use Rattle.spread_labels.proofs.ByPositions.{orders_in_words}
use Rattle.spread_labels.proofs.laws.order_law.Goals as goal

pub returns : goal.returns
returns c = orders_in_words
