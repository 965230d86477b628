-- Its parts in turn.
use Rattle.std.specs.Prelude.{◌++◌, codes}
use Rattle.fact_store.specs.View.{cells_of}
use Rattle.byte_io.proofs.Bytes.{Appends-trans}
use Rattle.byte_io.proofs.Writing.{writes_then}
use Rattle.audit_report.specs.AuditText.{end_text, sent_text}
use Rattle.audit_report.proofs.audit_text.write_packet.Goals as goal

pub returns : goal.returns
returns g c =
    let packet = c.args.packet.now in
    let network = c.args.network.now in
    let sent = sent_text c.args.word.now packet in
    let end = end_text (cells_of network.facts) network.held packet.line.lid packet.end in
    let both = Appends-trans _ _ _ sent end c.in_ok-write_sent.ensures.ok c.in_ok-write_end.ensures.grown in
    writes_then _ _ _ _ _ _ (sent ++ end) (codes "\n") both c.write.ensures.writes
