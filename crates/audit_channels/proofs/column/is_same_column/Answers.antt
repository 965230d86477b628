-- They agree at each index.
use Rattle.std.proofs.Common.{refl, arith}
use Rattle.audit_channels.proofs.Waiting.{same_columns}
use Rattle.audit_channels.proofs.column.is_same_column.Goals as goal

pub returns : goal.returns
returns c = (
  λ t. same_columns c.args.column.now c.args.other.now (omega arith) (λ k less. c.loop-vertex.invariant k (omega arith)),
  λ e. refl,
)
