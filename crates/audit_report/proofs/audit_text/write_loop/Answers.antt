-- The cycle is the one that was found.
use Rattle.std.proofs.Common.{◌∙◌, ap, subst}
use Rattle.fact_store.specs.View.{cells_of}
use Rattle.byte_io.specs.Writes.{Writes}
use Rattle.audit_channels.specs.declared.cycle_text.ChannelKind.TheVariants.{OnOneLane}
use Rattle.audit_channels.specs.CycleText.{cycle_line}
use Rattle.audit_report.specs.Passing.{Audited}
use Rattle.audit_report.proofs.audit_text.write_loop.Goals as goal

pub returns : goal.returns
returns g c =
    let cells = cells_of c.audit.inside.network.facts in
    let told = λ (x : Audited). cycle_line (cells_of x.facts) OnOneLane x.cycle in
    subst (Writes g.W.Sink.written g.W.Sink.has_failed c.write_cycle.result c.args.sink.now c.write_cycle.new.sink)
    (ap (cycle_line cells OnOneLane) c.deref.ensures.value ∙ ap told c.audit.view_is) c.write_cycle.ensures
