-- What `ping` prints if a plan is held, and once it is written.
use Rattle.std.specs.Prelude.{◌≡◌, ℕ, List, Some}
use Rattle.fabric_model.specs.declared.cable.NodePort.{NodePort}
use Rattle.fabric_model.specs.Fabric.{IsEndPort, IsPortNamed}
use Rattle.fabric_model.specs.FabricWalks.{IsJoinedTo}
use Rattle.topo_file.specs.declared.node.Node.{Node}
use Rattle.fabric_sim.specs.Simulation.{fabric_of, IsSimulation}
use Rattle.fabric_sim.specs.declared.ping.Ping.TheVariants.{Reached}
use Rattle.fact_store.specs.View.{Facts, cells_of}
use Rattle.subnet_view.specs.declared.end_port.EndPort.{EndPort}
use Rattle.subnet_view.specs.FabricAgreement.{AgreesOn}
use Rattle.lid_assign.specs.Lids.{IsNoRoom, owner_of}
use Rattle.lft_blocks.specs.Rule.{RuleValue}
use Rattle.lft_blocks.specs.Plan.{PlanValue, plan_of}
use Rattle.lft_blocks.specs.InForce.{HoldsPlan}
use Rattle.manager_laws.specs.Managing.{Managing, ManagerEvent}
use Rattle.manager_laws.specs.WritingPings.{BringsUp}
use Rattle.manager_laws.specs.Written.{at_end, at_writing, plan_at}
use Rattle.schedule_run.specs.Commands.{ping_shown}
use Rattle.schedule_lines.specs.Lines.{ping_line}
use Rattle.schedule_run.specs.World.{WorldValue}

-- the line `ping` from `source` for `lid` prints that the packet reaches the port `owner`, along some number of wires
pub record SaysReached (nodes : List Node) (w : WorldValue) (source : NodePort) (lid : ℕ) (owner : EndPort) : Type 0
  where
    pub target : NodePort
    pub is_owner : IsPortNamed (fabric_of w.fabric) owner.node owner.port target
    pub hops : ℕ
    pub line : ping_shown nodes w source lid ≡ ping_line nodes source lid (Reached target hops)

-- each `ping` from an end port that `origin` is joined to, for each LID of the plan, prints that it reaches the LID's
-- owner
abbrev pub EachPingSaysReached : PlanValue → WorldValue → NodePort → Type 0
EachPingSaysReached plan w origin = (nodes : List Node) (source : NodePort) → IsEndPort (fabric_of w.fabric) source
    → IsJoinedTo (fabric_of w.fabric) origin source
    → (lid : ℕ) (owner : EndPort) → owner_of plan.given lid ≡ Some owner → SaysReached nodes w source lid owner

-- if the facts have room and describe exactly the part of the world's fabric that the end port `origin` is joined to,
-- and this part holds the plan of these facts, each ping among the part's end ports prints that it reaches the owner
-- of its LID
abbrev pub HeldPlansAreReached : Type 0
HeldPlansAreReached = (rule : RuleValue) (lmc : ℕ) (facts : Facts) (w : WorldValue) (origin : NodePort)
    → ¬ (IsNoRoom lmc (cells_of facts)) → IsSimulation w.fabric
    → IsEndPort (fabric_of w.fabric) origin
    → AgreesOn (IsJoinedTo (fabric_of w.fabric) origin) (cells_of facts) (fabric_of w.fabric)
    → HoldsPlan (IsJoinedTo (fabric_of w.fabric) origin) (plan_of rule lmc (cells_of facts)) (fabric_of w.fabric)
    → EachPingSaysReached (plan_of rule lmc (cells_of facts)) w origin

-- if a manager has brought its subnet up (`BringsUp`), then in a world with the fabric at the end of the manager's
-- run, each ping from an end port that is joined to the manager's seat, for each LID of the plan, prints that it
-- reaches the LID's owner
abbrev pub WrittenPlansAreReached : Type 0
WrittenPlansAreReached = (m : Managing) (before between after : List ManagerEvent) → BringsUp m before between after
    → (w : WorldValue) → w.fabric ≡ (at_end m before between after).scene.fabric
    → EachPingSaysReached (plan_at (at_writing m before between)) w m.seat
