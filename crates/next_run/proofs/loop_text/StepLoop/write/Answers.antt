-- Its parts in turn.
use Rattle.std.proofs.Common.{Ok, ap}
use Rattle.fact_store.specs.View.{cells_of}
use Rattle.byte_io.proofs.Writing.{part_as, writes_and_part, writes_as}
use Rattle.audit_channels.specs.declared.cycle_text.ChannelKind.TheVariants.{OnOneLane}
use Rattle.audit_channels.specs.CycleText.{cycle_line}
use Rattle.next_run.specs.LoopText.{lids_line}
use Rattle.next_run.proofs.loop_text.StepLoop.write.Goals as goal

pub returns : goal.returns
returns g c =
    let cells = cells_of c.args.network.now.facts in
    let u = c.in_ok-write_cycle.field-0 in
    let cycle = writes_as g.W.Sink.written g.W.Sink.has_failed (Ok u) _ _ _ _ (ap (cycle_line cells OnOneLane) c.deref.ensures.value)
    c.in_ok-write_cycle.ensures in
    writes_and_part _ _ _ _ _ _ u _ _ cycle (part_as _ _ _ _ _ _ _ (ap lids_line c.deref-2.ensures.value) c.write_lids.ensures)
