use Rattle.std.proofs.Common.{refl}
use Rattle.spread_labels.specs.TargetSet.{has}
use Rattle.spread_labels.proofs.TargetBits.{no_bit}
use Rattle.spread_labels.proofs.target_set.TargetSet.none.Goals as goal

pub returns-clause-none : goal.returns-clause-none
unfolding has
returns-clause-none c = λ k h. no_bit 0 k refl
