use Rattle.std.proofs.Common.{arith}
use Rattle.spread_labels.specs.TargetSet.{has}
use Rattle.spread_labels.proofs.TargetBits.{without_bit}
use Rattle.spread_labels.proofs.target_set.TargetSet.without.Goals as goal

pub returns : goal.returns
unfolding has
returns c = λ k h. without_bit c.args.self.bits c.args.other.bits k (omega arith) h
