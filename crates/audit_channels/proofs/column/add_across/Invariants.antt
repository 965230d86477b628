-- The vertices so far.
use Rattle.audit_channels.specs.Column.{IsWithSome}
use Rattle.audit_channels.proofs.column.add_across.Given as goal

abbrev pub invariant-loop-vertex : goal.invariant-loop-vertex
invariant-loop-vertex l = IsWithSome l.vertex l.fn.waits l.before l.now l.waits
