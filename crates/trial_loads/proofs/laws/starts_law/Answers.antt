use Rattle.trial_loads.proofs.FarStarts.{starts_in_words}
use Rattle.trial_loads.proofs.laws.starts_law.Goals as goal

pub returns : goal.returns
returns c = starts_in_words
