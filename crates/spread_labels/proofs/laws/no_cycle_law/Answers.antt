use Rattle.spread_labels.proofs.Rising.{no_cycle_in_words}
use Rattle.spread_labels.proofs.laws.no_cycle_law.Goals as goal

pub returns : goal.returns
returns c = no_cycle_in_words
