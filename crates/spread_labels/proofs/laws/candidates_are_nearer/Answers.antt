use Rattle.spread_labels.proofs.Nearer.{candidates_are_nearer}
use Rattle.spread_labels.proofs.laws.candidates_are_nearer.Goals as goal

pub returns : goal.returns
returns c = candidates_are_nearer
