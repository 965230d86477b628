use Rattle.spread_labels.specs.TargetSet.{has}
use Rattle.spread_labels.proofs.TargetBits.{but_bit, but_less}
use Rattle.spread_labels.proofs.target_set.TargetSet.but.Goals as goal

pub returns-clause-others : goal.returns-clause-others
unfolding has
returns-clause-others c = λ k h. but_bit c.args.self.bits c.args.target k c.requires.target h

pub returns-clause-less : goal.returns-clause-less
unfolding has
returns-clause-less c = but_less c.args.self.bits c.args.target c.requires.target c.requires.among
