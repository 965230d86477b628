use Rattle.std.proofs.Common.{List, ℕ, subst}
use Rattle.std.proofs.lemmas.Result.{err_from_is_err_and}
use Rattle.schedule_run.specs.Run.{RefusesTexts}
use Rattle.schedule_run.proofs.texts.judge.Goals as goal

pub returns-in_err-topology-clause-refused : goal.returns-in_err-topology-clause-refused
returns-in_err-topology-clause-refused c =
    let p = err_from_is_err_and c.from_residual.result c.from_residual.ensures.1 in
    let script = c.args.texts.now.schedule.items in
    let h : RefusesTexts c.args.first c.deref.result.now script c.in_err-topology.field-0.0 = c.in_err-topology.ensures.refused script in
    rw (p.1, p.2) (subst (λ (t : List ℕ). RefusesTexts c.args.first t script c.in_err-topology.field-0.0) c.deref.ensures.value h)
