use Rattle.std.proofs.Common.{arith}
use Rattle.spread_labels.specs.TargetSet.{has}
use Rattle.spread_labels.proofs.TargetBits.{first_bit, no_bit}
use Rattle.spread_labels.proofs.target_set.TargetSet.first.Goals as goal

pub returns-then-self-eq0 : goal.returns-then-self-eq0
unfolding has
returns-then-self-eq0 c = λ k h. no_bit c.args.self.bits k c.if-self-eq0.true

pub returns-else-self-eq0 : goal.returns-else-self-eq0
unfolding has
returns-else-self-eq0 c = first_bit c.args.self.bits (grind arith) (omega arith)
