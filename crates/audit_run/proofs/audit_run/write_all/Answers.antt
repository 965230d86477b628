-- Its parts in turn.
use Rattle.std.proofs.Common.{◌≡◌, ◌∙◌, ◌++◌, append-nil, subst}
use Rattle.std.specs.Io.KnownBytes.{Appends}
use Rattle.std.proofs.lemmas.Result.{on_ok_weaker}
use Rattle.fact_store.specs.View.{cells_of}
use Rattle.byte_io.proofs.Bytes.{Appends-trans}
use Rattle.audit_report.specs.Appendix.{shown}
use Rattle.audit_report.specs.AuditText.{findings_text}
use Rattle.audit_run.specs.AuditRun.{loops_text}
use Rattle.audit_run.specs.VerdictText.{verdict_line}
use Rattle.audit_run.proofs.audit_run.write_all.Goals as goal

pub returns-clause-writes : goal.returns-clause-writes
returns-clause-writes g c =
    let a = c.args in
    let audit = a.audit.now in
    let found = a.found.now in
    let network = c.network.result.now in
    let is = c.network.ensures in
    let written = g.W.Sink.written in
    let start = written a.sink.now in
    let first = findings_text audit.most (cells_of audit.facts) audit.held in
    let lanes = loops_text (cells_of audit.facts) audit.cycle found in
    let more = shown (cells_of network.facts) network.held a.appendix.now in
    let last = verdict_line a.flaws.now in
    let both = Appends-trans start (written c.write_findings.new.sink) (written c.write_loops.new.sink) first lanes c.in_ok-write_findings.ensures.ok
    c.in_ok-write_loops.ensures.ok in
    let three = Appends-trans start (written c.write_loops.new.sink) (written c.write.new.sink) (first ++ lanes) more both c.in_ok-write.ensures.grown in
    let all = Appends-trans start (written c.write.new.sink) (written c.write_verdict.new.sink) ((first ++ lanes) ++ more) last three
    c.in_ok-write_verdict.ensures.ok in
    let whole : (((first ++ lanes) ++ more) ++ last) ≡ (((first ++ lanes) ++ shown (cells_of audit.facts) audit.held a.appendix.now) ++ last) =
    λ i. ((first ++ lanes) ++ shown (cells_of (is.facts i)) (is.held i) a.appendix.now) ++ last in
    record {
      ok = on_ok_weaker c.flush.result
          (λ none. subst (Appends start (written c.flush.new.self)) (append-nil (((first ++ lanes) ++ more) ++ last) ∙ whole)
          (Appends-trans start (written c.write_verdict.new.sink) (written c.flush.new.self) (((first ++ lanes) ++ more) ++ last) _ all none))
          c.flush.ensures.writes.ok;
      failed = c.flush.ensures.writes.failed;
    }
