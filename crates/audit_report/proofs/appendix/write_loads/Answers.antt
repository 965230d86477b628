-- A channel more.
use Rattle.std.proofs.Common.{get_or}
use Rattle.std.proofs.lemmas.List.{get_or_default}
use Rattle.fact_store.specs.View.{cells_of}
use Rattle.audit_counts.specs.LoadedChannel.{LoadedChannel}
use Rattle.audit_report.specs.Appendix.{load_line}
use Rattle.byte_io.proofs.Writing.{written_next, wrote}
use Rattle.audit_report.proofs.appendix.write_loads.Goals as goal

pub loop-loaded-preserved : goal.loop-loaded-preserved
loop-loaded-preserved g c =
    let channels = c.args.channels.now in
    let i = c.loop-loaded.loaded-index in
    let none : LoadedChannel = record { channel = 0; load = 0 } in
    written_next g.W.Sink.written g.W.Sink.has_failed (load_line (cells_of c.args.network.now.facts)) _ _ _ channels _ i (get_or channels i none)
    c.loop-loaded.invariant c.loop-loaded-test.true (get_or_default channels i none (get_or channels i none) c.loop-loaded-test.true)
    (wrote g.W.Sink.written g.W.Sink.has_failed _ _ _ _ c.in_ok-write_load.ensures)
