-- What was written, with the lines that are asked for.
use Rattle.std.proofs.Common.{◌++◌, ℕ, List, subst}
use Rattle.std.specs.Io.KnownBytes.{Appends}
use Rattle.fact_store.specs.View.{cells_of}
use Rattle.audit_report.specs.AuditText.{findings_text}
use Rattle.audit_run.specs.AuditRun.{loops_text}
use Rattle.audit_run.specs.VerdictText.{verdict_line}
use Rattle.audit_run.proofs.Flawless.{empty_is}
use Rattle.audit_run.proofs.audit_run.tell_flaws.Goals as goal

pub returns-clause-told : goal.returns-clause-told
returns-clause-told g c =
    let a = c.args in
    let audit = a.audit.now in (
      subst (λ (more : List ℕ). Appends (g.W.Sink.written a.sink.now) (g.W.Sink.written c.write_all.new.sink)
          (((findings_text audit.most (cells_of audit.facts) audit.held ++ loops_text (cells_of audit.facts) audit.cycle a.found.now) ++ more)
          ++ verdict_line a.flaws.now)) c.requires c.in_ok-write_all.ensures.writes.ok,
      empty_is a.flaws.now c.is_empty.result c.is_empty.ensures,
    )
