-- Each cell that the walk gives is read in step.
use Rattle.std.proofs.Common.{sym, ap, ◌∙◌}
use Rattle.std.proofs.lemmas.List.{append-nil}
use Rattle.std.specs.Prelude.{None, Some}
use Rattle.fact_store.specs.Iter.{cells_left}
use Rattle.subnet_view.proofs.EndsInStep.{found_more, walked_at_first}
use Rattle.subnet_view.proofs.wire_table.wire_ends.Goals as goal

pub loop-sighting-init : goal.loop-sighting-init
loop-sighting-init c =
    let left = ap cells_left c.into_iter-sighting-iterator.ensures.into_iter_gives ∙ c.cells-sighting-items.ensures.cells in
    walked_at_first c.args.store.now c.new-ends.result.items
    (cells_left c.into_iter-sighting-iterator.result) c.new-reader.result c.new-ends.ensures.items left c.new-reader.ensures

pub loop-sighting-preserved-in-Continue-1 : goal.loop-sighting-preserved-in-Continue-1
loop-sighting-preserved-in-Continue-1 c =
    let l = c.loop-sighting in
    found_more c.args.store.now l.ends.items l.yielded (cells_left l.sighting-iterator)
    (cells_left c.next.new.self) c.in-Some.sighting l.reader c.wire_end.new.self
    (Some c.in-Some-wire_end.end) c.push.new.self.items c.in_ok-push.ensures.items l.invariant c.in-Some.ensures.steps
    (sym c.in-Some-wire_end.is ∙ c.wire_end.ensures.end) c.wire_end.ensures.later

pub loop-sighting-preserved : goal.loop-sighting-preserved
loop-sighting-preserved c =
    let l = c.loop-sighting in
    found_more c.args.store.now l.ends.items l.yielded (cells_left l.sighting-iterator)
    (cells_left c.next.new.self) c.in-Some.sighting l.reader c.wire_end.new.self
    None l.ends.items (sym (append-nil l.ends.items)) l.invariant c.in-Some.ensures.steps (sym c.in_default.is
    ∙ c.wire_end.ensures.end) c.wire_end.ensures.later
