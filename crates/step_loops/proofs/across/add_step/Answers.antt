-- Both tables have the same edges.
use Rattle.std.proofs.Common.{◌≡◌, ◌∙◌, List, sym, subst}
use Rattle.std.specs.Prelude.{Option}
use Rattle.port_graph.specs.declared.edge.Edge.{Edge}
use Rattle.audit_channels.specs.Column.{IsWithColumn}
use Rattle.step_loops.specs.StepOrder.{IsWithStep}
use Rattle.step_loops.proofs.Taken.{on_ok, one_kind}
use Rattle.step_loops.proofs.across.add_step.Goals as goal

pub returns-then-is_same_column-3 : goal.returns-then-is_same_column-3
returns-then-is_same_column-3 c =
    let old = c.args.waits.now in
    let held = c.args.columns.now.held.items in
    let next = c.args.columns.now.next.items in
    let new = c.add_column.new.waits in
    let same : held ≡ next = sym c.deref-3.ensures.value ∙ c.is_same_column-2.ensures.0 c.if-is_same_column-3.true ∙ c.deref-4.ensures.value in
    let column = c.deref-then-is_same_column-3.result.now in
    on_ok (IsWithColumn old column new) (IsWithStep old held next new) c.add_column.result c.add_column.ensures
    (λ w. one_kind old new held next same (subst (λ (xs : List (Option Edge)). IsWithColumn old xs new) c.deref-then-is_same_column-3.ensures.value w))
