-- It has been added.
use Rattle.std.proofs.Common.{List, sym, subst}
use Rattle.std.specs.Prelude.{Option}
use Rattle.port_graph.specs.declared.edge.Edge.{Edge}
use Rattle.audit_channels.specs.Waiting.{IsAdded}
use Rattle.audit_channels.proofs.Waiting.{again}
use Rattle.audit_channels.proofs.network_waits.add_after.Goals as goal

pub returns-then-is_same_column : goal.returns-then-is_same_column
returns-then-is_same_column c =
    let same = c.is_same_column.ensures.0 c.if-is_same_column.true in
    again c.args.column.now c.args.waits.now
    (subst (λ (xs : List (Option Edge)). IsAdded xs c.args.waits.now) (sym same) c.requires.added)
