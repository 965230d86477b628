use Rattle.std.proofs.Common.{arith}
use Rattle.std.proofs.lemmas.Bool.{eq-eqb, eqb-true}
use Rattle.spread_labels.specs.TargetSet.{has}
use Rattle.spread_labels.proofs.TargetBits.{no_bit, no_bits}
use Rattle.spread_labels.proofs.target_set.TargetSet.is_empty.Goals as goal

pub returns : goal.returns
unfolding has
returns c = (
  λ e k h. no_bit c.args.self.bits k (eqb-true c.args.self.bits 0 e),
  λ none. eq-eqb c.args.self.bits 0 (no_bits c.args.self.bits (omega arith) none),
)
