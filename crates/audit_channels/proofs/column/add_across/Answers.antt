-- A vertex more.
use Rattle.std.proofs.Common.{◌+◌, sym, subst}
use Rattle.audit_channels.specs.Column.{IsWithSome}
use Rattle.audit_channels.proofs.Columns.{nothing_more, one_more}
use Rattle.audit_channels.proofs.column.add_across.Goals.{in-Some+in_ok-add, in_default}
use Rattle.audit_channels.proofs.column.add_across.Goals as goal

pub loop-vertex-preserved : goal.loop-vertex-preserved
loop-vertex-preserved c =
    let old = c.args.waits.now in
    let before = c.args.before.now in
    let now = c.args.now.now in
    let vertex = c.loop-vertex.vertex in
    elim c.match-turn_at.branch [
      | in-Some+in_ok-add w ↦
          subst (IsWithSome (vertex + 1) old before now) (sym w.waits-is)
          (one_more old before now c.loop-vertex.waits w.add.new.self vertex w.in-Some.turn c.loop-vertex.invariant w.in-Some.ensures w.in_ok-add.ensures)
      | in_default w ↦
          subst (IsWithSome (vertex + 1) old before now) (sym w.waits-is)
          (nothing_more old before now c.loop-vertex.waits vertex c.loop-vertex.invariant w.in_default.ensures)
    ]
