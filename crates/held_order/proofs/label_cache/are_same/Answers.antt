-- They agree at each index.
use Rattle.std.proofs.Common.{None, refl, arith}
use Rattle.std.proofs.lemmas.List.{ext_get_or}
use Rattle.held_order.proofs.label_cache.are_same.Goals as goal

pub returns : goal.returns
returns c = (
  λ t. ext_get_or None c.args.labels.now c.args.others.now (omega arith) (λ k less. c.loop-index.invariant k (omega arith)),
  λ e. refl,
)
