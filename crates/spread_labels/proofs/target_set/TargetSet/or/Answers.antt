use Rattle.spread_labels.specs.TargetSet.{has}
use Rattle.spread_labels.proofs.TargetBits.{or_bit}
use Rattle.spread_labels.proofs.target_set.TargetSet.or.Goals as goal

pub returns : goal.returns
unfolding has
returns c = λ k h. or_bit c.args.self.bits c.args.other.bits k
