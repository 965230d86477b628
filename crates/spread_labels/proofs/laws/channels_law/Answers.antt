use Rattle.spread_labels.proofs.Rising.{channels_in_words}
use Rattle.spread_labels.proofs.laws.channels_law.Goals as goal

pub returns : goal.returns
returns c = channels_in_words
