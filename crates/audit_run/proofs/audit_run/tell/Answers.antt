-- The flaws that were found are told.
use Rattle.std.proofs.Common.{sym, subst}
use Rattle.std.proofs.lemmas.Result.{IfOk-weaker}
use Rattle.audit_run.specs.AuditRun.{AreFlaws, IsFoundFree}
use Rattle.audit_run.proofs.audit_run.tell.Goals as goal

pub returns-clause-told : goal.returns-clause-told
returns-clause-told g c =
    let a = c.args in
    let audit = a.audit.now in
    IfOk-weaker c.tell_flaws.result _ _ (λ passed says. record {
      flaws = c.deref.result.now;
      are = subst (AreFlaws (IsFoundFree a.asked.now.max_load audit.facts audit.held a.found.now)) (sym c.deref.ensures.value) c.in_ok-flaws.ensures;
      printed = says.0;
      flawless = says.1;
    }) c.tell_flaws.ensures.told
