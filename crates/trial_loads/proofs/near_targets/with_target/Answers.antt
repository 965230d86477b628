use Rattle.spread_labels.proofs.TargetBits.{with_bit}
use Rattle.trial_loads.proofs.near_targets.with_target.Goals as goal

pub returns : goal.returns
returns c = λ j. with_bit c.args.set c.args.k j c.requires
