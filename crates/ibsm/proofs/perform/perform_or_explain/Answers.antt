-- Whether all passes is read off the status.
use Rattle.std.proofs.Common.{◌≡◌, ◌∙◌, sym}
use Rattle.ibsm.proofs.Statuses.{same_answer}
use Rattle.ibsm.proofs.perform.perform_or_explain.Goals as goal

pub returns-in-Ok-clause-done : goal.returns-in-Ok-clause-done
returns-in-Ok-clause-done g c = λ passed e.
    let same : passed ≡ c.in-Ok.passed = sym (same_answer c.in-Ok.passed passed (sym c.status_after.ensures ∙ e)) in
    rw same c.in-Ok.ensures.done
