-- The rule is what the match found.
use Rattle.std.proofs.Common.{◌≡◌, IfOk, ap, subst, sym}
use Rattle.fact_store.specs.View.{cells_of}
use Rattle.lft_blocks.specs.Plan.{PlanValue, plan_of}
use Rattle.lft_blocks.specs.Rule.{RuleValue, value_of}
use Rattle.plan_order.proofs.ordered_plan.plan_in_order.Goals as goal

pub returns-in-UpDown-clause-plan : goal.returns-in-UpDown-clause-plan
returns-in-UpDown-clause-plan c =
    subst (λ (rule : RuleValue). IfOk c.by_rank.result (λ found. found.0 ≡ plan_of rule c.args.lmc (cells_of c.args.planned.now.subnet)))
    (sym (ap value_of c.in-UpDown.is)) c.by_rank.ensures.plan

pub returns-in-Spread-clause-plan : goal.returns-in-Spread-clause-plan
returns-in-Spread-clause-plan c =
    subst (λ (rule : RuleValue). IfOk c.by_spread.result (λ found. found.0 ≡ plan_of rule c.args.lmc (cells_of c.args.planned.now.subnet)))
    (sym (ap value_of c.in-Spread.is)) c.by_spread.ensures.plan
