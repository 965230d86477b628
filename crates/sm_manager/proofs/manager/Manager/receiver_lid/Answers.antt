use Rattle.std.proofs.Common.{◌≡◌, Some, sym, ap, ◌∙◌, subst}
use Rattle.smp_bytes.specs.Judges.{JudgesButFor}
use Rattle.fact_store.specs.View.{cells_of}
use Rattle.sm_manager.specs.Election.{port_seen}
use Rattle.sm_manager.specs.Fault.{is_memory}
use Rattle.sm_manager.specs.Manager.{Manager}
use Rattle.sm_manager.specs.PlanFaults.{plan_fault}
use Rattle.sm_manager.proofs.ReceiverLids.{judged_with_lid}
use Rattle.sm_manager.proofs.manager.Manager.receiver_lid.Goals as goal

pub returns-clause-judged : goal.returns-clause-judged
returns-clause-judged c =
    let m : Manager = c.args.self.now in
    let seen : port_seen (cells_of m.store) c.in-Some.receiver ≡ Some c.in-Some-port_seen.port =
    sym (c.port_seen.ensures ∙ ap (λ (x : Manager). port_seen (cells_of x.store) c.in-Some.receiver) c.self.view_is) ∙ c.in-Some-port_seen.is in
    subst (JudgesButFor is_memory c.where_numbered.result)
    (judged_with_lid _ m c.args.receiver c.in-Some.receiver c.in-Some-port_seen.port c.has_numbers.result c.self.view_is
    c.in-Some.is seen c.has_numbers.ensures.enough)
    (c.where_numbered.ensures.judged (plan_fault m.planning.lmc (cells_of m.store)) c.planned_lid.ensures.judged)
