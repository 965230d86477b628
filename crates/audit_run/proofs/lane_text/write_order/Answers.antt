-- Its parts in turn.
use Rattle.std.proofs.Common.{ap}
use Rattle.fact_store.specs.View.{cells_of}
use Rattle.byte_io.proofs.Bytes.{Appends-trans}
use Rattle.audit_channels.specs.declared.cycle_text.ChannelKind.TheVariants.{ByLane}
use Rattle.audit_channels.specs.CycleText.{cycle_line}
use Rattle.byte_io.proofs.Writing.{spelled, writes_as, writes_then}
use Rattle.audit_run.proofs.lane_text.write_order.Goals as goal

pub returns : goal.returns
returns g c =
    let cells = cells_of c.args.network.now.facts in
    let lead = spelled _ _ _ _ c.as_bytes.ensures.value c.in_ok-write.ensures.writes.ok in
    let two = Appends-trans _ _ _ _ _ c.in_ok-write_dropped.ensures.grown lead in
    let cycle = writes_as _ _ _ _ _ _ _ (ap (cycle_line cells ByLane) c.deref.ensures.value) c.write_cycle.ensures in
    writes_then _ _ _ _ _ _ _ _ two cycle
