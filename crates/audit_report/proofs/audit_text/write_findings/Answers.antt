-- The parts are those of the text, by what the audit has found.
use Rattle.std.proofs.Common.{◌≡◌, ◌∙◌, ◌++◌, ap, subst}
use Rattle.std.specs.Prelude.{codes}
use Rattle.fact_store.specs.View.{cells_of}
use Rattle.byte_io.proofs.Bytes.{Appends-trans}
use Rattle.byte_io.proofs.Writing.{writes_then}
use Rattle.byte_io.specs.Writes.{Writes}
use Rattle.audit_report.specs.AuditText.{disputed_line, findings_text, lid_line, kind_text, port_line, switch_line, tally_text, unmatched_text, unmatched_told}
use Rattle.audit_report.specs.AuditText.{ways_text}
use Rattle.audit_report.specs.Passing.{Audited}
use Rattle.audit_counts.specs.Packets.{packets_of}
use Rattle.audit_report.proofs.TallyText.{tally_told}
use Rattle.audit_report.proofs.audit_text.write_findings.Goals as goal

pub returns : goal.returns
unfolding findings_text
returns g c =
    let a = c.audit.inside in
    let f = a.findings in
    let found = c.audit.invariant in
    let differ = found.differ in
    let cells = cells_of a.network.facts in
    let held = a.network.held in
    let written = g.W.Sink.written in
    let tally = tally_text cells held f.tally in
    let counted = tally_told a.most cells held (packets_of cells held) f.tally found.counted in
    let unmatched = unmatched_text f.unmatched in
    let disputed = disputed_line f.disputed in
    let ways = ways_text f.ways.hops f.ways.load in
    let two = Appends-trans (written c.args.sink.now) (written c.write_tally.new.sink) (written c.write_unmatched.new.sink) tally unmatched
    c.in_ok-write_tally.ensures.ok c.in_ok-write_unmatched.ensures.grown in
    let three = Appends-trans (written c.args.sink.now) (written c.write_unmatched.new.sink) (written c.write_disputed.new.sink) (tally ++ unmatched) disputed
    two c.in_ok-write_disputed.ensures.grown in
    let differs : unmatched ≡ unmatched_told a.most cells held =
    (λ i. kind_text lid_line (codes "unowned") (differ.unowned_are i)
    ++ kind_text lid_line (codes "twice") (differ.twice_are i)
    ++ kind_text switch_line (codes "unknown") (differ.unknown_are i)
    ++ kind_text switch_line (codes "tableless") (differ.tableless_are i)
    ++ kind_text switch_line (codes "unusable") (differ.unusable_are i)
    ++ kind_text port_line (codes "lidless") (differ.lidless_are i)
    ++ kind_text port_line (codes "unjoined") (differ.unjoined_are i)) in
    let whole : (((tally ++ unmatched) ++ disputed) ++ ways) ≡ findings_text a.most cells held =
    (λ i. (((counted i) ++ differs i) ++ disputed_line (found.count_is i)) ++ ways_text (found.told.hops i) (found.told.load i)) in
    let told = λ (x : Audited). findings_text x.most (cells_of x.facts) x.held in
    subst (Writes written g.W.Sink.has_failed c.write_ways.result c.args.sink.now c.write_ways.new.sink) (whole ∙ ap told c.audit.view_is)
    (writes_then _ _ _ _ _ _ ((tally ++ unmatched) ++ disputed) ways three c.write_ways.ensures)
