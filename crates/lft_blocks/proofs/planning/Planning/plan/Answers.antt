use Rattle.std.proofs.Common.{◌≡◌, subst}
use Rattle.std.specs.Prelude.{IfOk}
use Rattle.fact_store.specs.View.{cells_of}
use Rattle.lft_blocks.specs.Arrival.{EveryPacketArrives}
use Rattle.lft_blocks.specs.Plan.{plan_of}
use Rattle.lft_blocks.specs.Planning.{Planning}
use Rattle.lft_blocks.proofs.planning.Planning.plan.Goals as goal

pub returns-clause-plan : goal.returns-clause-plan
returns-clause-plan c =
    subst (λ (p : Planning). IfOk c.of.result (λ plan. plan ≡ plan_of p.rule p.lmc (cells_of c.args.store.now))) c.self.view_is c.of.ensures.plan

pub returns-clause-arrives : goal.returns-clause-arrives
returns-clause-arrives c =
    subst (λ (p : Planning). IfOk c.of.result (λ plan. EveryPacketArrives p.rule (cells_of c.args.store.now) plan)) c.self.view_is c.of.ensures.arrives
