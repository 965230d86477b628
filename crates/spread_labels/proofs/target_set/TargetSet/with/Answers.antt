use Rattle.spread_labels.specs.TargetSet.{has}
use Rattle.spread_labels.proofs.TargetBits.{with_bit}
use Rattle.spread_labels.proofs.target_set.TargetSet.with.Goals as goal

pub returns : goal.returns
unfolding has
returns c = λ k h. with_bit c.args.self.bits c.args.target k c.requires
