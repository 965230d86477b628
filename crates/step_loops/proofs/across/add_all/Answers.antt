-- The four kinds.
use Rattle.audit_channels.specs.Column.{IsWithAcross}
use Rattle.step_loops.specs.StepOrder.{IsWithStep}
use Rattle.step_loops.proofs.Taken.{all_kinds, on_ok}
use Rattle.step_loops.proofs.across.add_all.Goals as goal

pub returns : goal.returns
returns c =
    let old = c.args.waits.now in
    let held = c.args.held.now in
    let next = c.args.next.now in
    let one = c.add_across.new.waits in
    let two = c.add_across-2.new.waits in
    let three = c.add_across-3.new.waits in
    let new = c.add_across-4.new.waits in
    on_ok (IsWithAcross three next next new) (IsWithStep old held next new) c.add_across-4.result c.add_across-4.ensures
    (all_kinds old one two three new held next c.in_ok-add_across.ensures c.in_ok-add_across-2.ensures c.in_ok-add_across-3.ensures)
