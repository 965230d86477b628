use Rattle.std.proofs.Common.{◌+◌, ◌*◌, arith, sym, ◌∙◌}
use Rattle.fabric_sim.specs.Simulation.{fabric_of}
use Rattle.fabric_sim.proofs.AgentLists.{within_agents}
use Rattle.fabric_sim.proofs.PingSteps.{delivered_there, dropped_there, stuck_there, goes_on, given_up}
use Rattle.fabric_sim.proofs.fabric.Fabric.ping.Goals as goal

pub returns-in-Delivers-clause-ping : goal.returns-in-Delivers-clause-ping
returns-in-Delivers-clause-ping c =
    delivered_there (fabric_of c.args.self.now) c.args.lid c.loop-hops.hops (2 * c.switch_count.result
    + 2) _ _ c.loop-hops.invariant.goes c.in-Delivers.port c.loop-hops-test.true c.in-Delivers.ensures

pub returns-in-Drops-clause-ping : goal.returns-in-Drops-clause-ping
returns-in-Drops-clause-ping c =
    dropped_there (fabric_of c.args.self.now) c.args.lid c.loop-hops.hops (2 * c.switch_count.result
    + 2) _ _ c.loop-hops.invariant.goes c.loop-hops-test.true c.in-Drops.ensures

pub returns-in_default-clause-ping : goal.returns-in_default-clause-ping
returns-in_default-clause-ping c =
    stuck_there (fabric_of c.args.self.now) c.args.lid c.loop-hops.hops (2 * c.switch_count.result
    + 2) _ _ c.loop-hops.invariant.goes c.in-LeavesBy.out c.loop-hops-test.true c.in-LeavesBy.ensures (sym c.in_default.is ∙ c.across.ensures.other)

pub loop-hops-preserved : goal.loop-hops-preserved
loop-hops-preserved c =
    record {
      there = within_agents c.args.self.now.agents c.in-Some.into c.in-Some.ensures.port;
      goes = goes_on (fabric_of c.args.self.now) c.args.lid c.loop-hops.hops (2 * c.switch_count.result
          + 2) _ _ c.loop-hops.invariant.goes c.in-LeavesBy.out c.in-Some.into c.in-LeavesBy.ensures (sym c.in-Some.is ∙ c.across.ensures.other);
    }

pub returns-clause-ping : goal.returns-clause-ping
returns-clause-ping c = let n = c.loop-hops-test.false in given_up (fabric_of c.args.self.now) c.args.lid c.loop-hops.hops (2 * c.switch_count.result
    + 2) _ _ c.loop-hops.invariant.goes (omega arith)
