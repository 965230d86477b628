use Rattle.std.proofs.Common.{ap, arith, ◌==◌}
use Rattle.std.specs.Int.{bit_at}
use Rattle.std.proofs.lemmas.Bool.{eq-eqb, eqb-true}
use Rattle.spread_labels.specs.TargetSet.{has}
use Rattle.spread_labels.proofs.TargetBits.{same_bits}
use Rattle.spread_labels.proofs.target_set.TargetSet.is_same.Goals as goal

pub returns : goal.returns
unfolding has
returns c = (
  λ e k h. ap (λ b. bit_at b k == 1) (eqb-true c.args.self.bits c.args.other.bits e),
  λ same. eq-eqb c.args.self.bits c.args.other.bits
      (same_bits c.args.self.bits c.args.other.bits (omega arith) (omega arith) same),
)
