-- Its parts in turn.
use Rattle.std.proofs.Common.{◌≡◌, ◌++◌, Ok}
use Rattle.fact_store.specs.View.{cells_of}
use Rattle.byte_io.proofs.Writing.{writes_and_part, writes_as, writes_then}
use Rattle.audit_report.specs.AuditText.{missed_line, missed_text, pairs_text, tally_text}
use Rattle.audit_report.proofs.audit_text.write_tally.Goals as goal

pub returns : goal.returns
returns g c =
    let cells = cells_of c.args.network.now.facts in
    let held = c.args.network.now.held in
    let tally = c.args.tally.now in
    let pairs = pairs_text tally.all tally.between in
    let counted = missed_line tally.causes c.count.result c.count-2.result in
    let missed = missed_text cells held tally.lost tally.misdelivered tally.round in
    let u = c.in_ok-write_counted.field-0 in
    let two = writes_then g.W.Sink.written g.W.Sink.has_failed (Ok u) _ _ _ pairs counted c.in_ok-write_pairs.ensures.ok c.in_ok-write_counted.ensures in
    let whole : (pairs ++ counted ++ missed) ≡ tally_text cells held tally =
    (λ i. pairs ++ missed_line tally.causes (c.count.ensures i) (c.count-2.ensures i) ++ missed) in
    writes_as _ _ _ _ _ _ _ whole (writes_and_part _ _ _ _ _ _ u (pairs ++ counted) missed two c.write_missed.ensures)
