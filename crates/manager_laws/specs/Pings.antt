-- Pings in a simulated fabric where a plan is in force.
-- InfiniBand Architecture Specification, Volume 1: switches, unicast forwarding by the linear forwarding table.
use Rattle.std.specs.Prelude.{◌≡◌, ℕ, length, None, Some}
use Rattle.fabric_model.specs.declared.cable.NodePort.{NodePort}
use Rattle.fabric_model.specs.Fabric.{IsEndPort}
use Rattle.fabric_model.specs.FabricWalks.{IsJoinedTo}
use Rattle.fact_store.specs.View.{Facts, cells_of}
use Rattle.subnet_view.specs.declared.end_port.EndPort.{EndPort}
use Rattle.subnet_view.specs.Reading.{Cells}
use Rattle.subnet_view.specs.FabricAgreement.{Part, AgreesOn}
use Rattle.lid_assign.specs.Lids.{IsNoRoom, owner_of}
use Rattle.lft_blocks.specs.Rule.{RuleValue}
use Rattle.lft_blocks.specs.Plan.{PlanValue, plan_of}
use Rattle.lft_blocks.specs.Arrival.{Arrives}
use Rattle.lft_blocks.specs.InForce.{HoldsPlan}
use Rattle.fabric_sim.specs.declared.ping.Ping.TheVariants.{Reached}
use Rattle.fabric_sim.specs.Simulation.{Simulation, IsSimulation, fabric_of}
use Rattle.fabric_sim.specs.Ping.{ping, ping_fault}

-- the ping from `source` for `lid` is not refused. A packet for `lid` from `source` arrives at the end port `owner`,
-- and the ping returns the port that takes the packet and the number of hops
pub record PingArrives (rule : RuleValue) (part : Part) (cells : Cells) (s : Simulation) (lid : ℕ) (source : NodePort)
    (owner : EndPort) : Type 0 where
  pub accepted : ping_fault s source ≡ None
  pub arrives : Arrives rule part cells (fabric_of s) lid source owner
  pub reached : ping (fabric_of s) lid source ≡ Reached arrives.target (length arrives.hops)

-- each ping from an end port that `origin` is joined to, for each LID of the plan, arrives at the LID's owner
abbrev pub EachPingArrives : RuleValue → Cells → PlanValue → Simulation → NodePort → Type 0
EachPingArrives rule cells plan s origin =
    (source : NodePort) → IsEndPort (fabric_of s) source → IsJoinedTo (fabric_of s) origin source
    → (lid : ℕ) (owner : EndPort) → owner_of plan.given lid ≡ Some owner
    → PingArrives rule (IsJoinedTo (fabric_of s) origin) cells s lid source owner

-- if the facts have room and describe exactly the part that the end port `origin` is joined to, and this part holds
-- the plan of these facts, each ping among the part's end ports arrives
abbrev pub PingsArrive : Type 0
PingsArrive = (rule : RuleValue) (lmc : ℕ) (facts : Facts) (s : Simulation) (origin : NodePort)
    → ¬ (IsNoRoom lmc (cells_of facts)) → IsSimulation s → IsEndPort (fabric_of s) origin
    → AgreesOn (IsJoinedTo (fabric_of s) origin) (cells_of facts) (fabric_of s)
    → HoldsPlan (IsJoinedTo (fabric_of s) origin) (plan_of rule lmc (cells_of facts)) (fabric_of s)
    → EachPingArrives rule (cells_of facts) (plan_of rule lmc (cells_of facts)) s origin
