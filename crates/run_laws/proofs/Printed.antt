-- What `ping` prints of a ping that arrives.
use Rattle.std.proofs.Common.{length, sym, ap, ◌∙◌, subst}
use Rattle.fabric_model.specs.declared.cable.NodePort.{NodePort}
use Rattle.fabric_sim.specs.Simulation.{Simulation}
use Rattle.fact_store.specs.View.{cells_of}
use Rattle.subnet_view.specs.Reading.{Cells}
use Rattle.lft_blocks.specs.Rule.{RuleValue}
use Rattle.lft_blocks.specs.Plan.{PlanValue, plan_of}
use Rattle.manager_laws.specs.Pings.{EachPingArrives}
use Rattle.manager_laws.proofs.PlannedPings.{pings_arrive}
use Rattle.manager_laws.specs.Written.{at_writing, plan_at}
use Rattle.manager_laws.proofs.Arrive as arrive
use Rattle.schedule_run.specs.Commands.{ping_shown, ping_text}
use Rattle.schedule_lines.specs.Lines.{ping_line}
use Rattle.schedule_run.specs.World.{WorldValue}
use Rattle.run_laws.specs.Reached.{EachPingSaysReached, HeldPlansAreReached, WrittenPlansAreReached}

-- a ping that arrives is shown as reached
each_says : (rule : RuleValue) (cells : Cells) (plan : PlanValue) (w : WorldValue) (origin : NodePort) → EachPingArrives rule cells plan w.fabric origin
    → EachPingSaysReached plan w origin
unfolding ping_shown
each_says rule cells plan w origin arrives nodes source end joined lid owner owned =
    let p = arrives source end joined lid owner owned in
    record {
      target = p.arrives.target;
      is_owner = p.arrives.is_owner;
      hops = length p.arrives.hops;
      line = ap (ping_text nodes w.fabric source lid) p.accepted ∙ ap (ping_line nodes source lid) p.reached;
    }

pub held_plans_are_reached : HeldPlansAreReached
held_plans_are_reached rule lmc facts w origin room is end agrees holds =
    each_says rule (cells_of facts) (plan_of rule lmc (cells_of facts)) w origin (pings_arrive rule lmc facts w.fabric origin room is end agrees holds)

pub written_plans_are_reached : WrittenPlansAreReached
written_plans_are_reached m before between after brings w same =
    let cells = cells_of (at_writing m before between).manager.store in
    let plan = plan_at (at_writing m before between) in
    let rule = (at_writing m before between).manager.planning.rule in
    each_says rule cells plan w m.seat
    (subst (λ (s : Simulation). EachPingArrives rule cells plan s m.seat) (sym same) (arrive.pings_arrive_once_written m before between after brings))
