use Rattle.std.proofs.Common.{ap, ◌==◌}
use Rattle.std.proofs.lemmas.Nat.Bits.{shr_and_one}
use Rattle.spread_labels.specs.TargetSet.{has}
use Rattle.spread_labels.proofs.target_set.TargetSet.has.Goals as goal

pub returns : goal.returns
unfolding has
returns c = ap (λ n. n == 1) (shr_and_one c.args.self.bits c.args.target)
