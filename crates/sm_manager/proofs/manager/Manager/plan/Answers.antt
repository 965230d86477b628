-- The plan is that of the store, and by it packets arrive.
use Rattle.std.proofs.Common.{ap, ◌∙◌, subst}
use Rattle.fact_store.specs.View.{cells_of}
use Rattle.plan_steps.specs.Arrival.{EveryPacketArrives}
use Rattle.plan_steps.specs.Plan.{plan_of}
use Rattle.sm_manager.specs.Manager.{Manager}
use Rattle.sm_manager.proofs.manager.Manager.plan.Goals as goal

pub returns-in-Ok-clause-plan : goal.returns-in-Ok-clause-plan
returns-in-Ok-clause-plan c = c.in-Ok.ensures.plan ∙ ap (λ (m : Manager). plan_of m.planning.rule m.planning.lmc (cells_of m.store)) c.self.view_is

pub returns-in-Ok-clause-arrives : goal.returns-in-Ok-clause-arrives
returns-in-Ok-clause-arrives c =
    subst (λ (m : Manager). EveryPacketArrives m.planning.rule (cells_of m.store) c.in-Ok.plan) c.self.view_is c.in-Ok.ensures.arrives
