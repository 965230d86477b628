-- A step that managers write while packets travel. InfiniBand Architecture Specification, Volume 1: switches, unicast
-- forwarding by the linear forwarding table; subnet management, LinearForwardingTable and SwitchInfo (LinearFDBTop).
use Rattle.std.specs.Prelude.{◌≡◌, ◌≤◌, ◌<◌, ◌⊎◌, ℕ, ◌+◌, ◌*◌, List, [], ◌∷◌, All, Contains, Some, length, IsTrue}
use Rattle.fabric_model.specs.declared.cable.NodePort.{NodePort}
use Rattle.smp_bytes.specs.NodeType.{is_switch}
use Rattle.fabric_model.specs.Fabric.{Fabric, IsEndPort, Node, range_at}
use Rattle.fabric_model.specs.FabricWalks.{IsJoinedTo}
use Rattle.node_agents.specs.Agent.{Agent}
use Rattle.fact_store.specs.View.{Facts, cells_of}
use Rattle.subnet_view.specs.Reading.{switches}
use Rattle.subnet_view.specs.FabricAgreement.{IsEndPortIn, Part}
use Rattle.fabric_sim.specs.Simulation.{Simulation, fabric_of}
use Rattle.lid_assign.specs.Lids.{range_of, top_of}
use Rattle.plan_tables.specs.Plan.{PlanValue, switches_of}
use Rattle.held_tables.specs.declared.held.HeldLid.{HeldLid}
use Rattle.held_tables.specs.Held.{HeldPlan}
use Rattle.held_tables.specs.Tables as tables
use Rattle.packet_walks.specs.declared.packet_end.End.TheVariants.{Taken}
use Rattle.packet_walks.specs.Fabrics.{IsSeenIn}
use Rattle.packet_walks.specs.HopsByTables.{IsBrought}
use Rattle.next_tables.specs.NextTables.{IsKept, StepRuleValue, by_order, next_tables, settled_first}
use Rattle.next_tables.specs.SwitchPositions.{AreRight, IsOrder, position_at}
use Rattle.next_tables.specs.ChangingFabric.{ArrivesMeanwhile}
use Rattle.next_tables.specs.OrderedStepLaws.{IsLineStep}
use Rattle.manager_laws.specs.Scene.{CanHappen, Deliver, Event, IsQuiet, Scene, after_event, after_events}
use Rattle.manager_laws.specs.Sets.{Carries, TakesSet}
use Rattle.program_laws.specs.StepPlan.{HasNextBlock, HasWholeBlocks}

-- if the event is a delivery, a Set that an agent takes by it carries the plan's values
abbrev pub SetsCarry : PlanValue → Simulation → Event → Type 0
SetsCarry plan s (Deliver serial) =
    (at : NodePort) (a : Agent) (packet : List ℕ) → TakesSet s serial at a packet → Carries plan a at.port packet
SetsCarry plan s event = Unit {0}

-- each Set that an agent takes in the course of `events`, from `s` on, carries the plan's values
abbrev pub AllSetsCarry : PlanValue → List Event → Scene → Type 0
AllSetsCarry plan [] s = Unit {0}
AllSetsCarry plan (event ∷ events) s =
    SetsCarry plan s.fabric event × AllSetsCarry plan events (after_event s event)

-- `f` is the fabric of `s`, or the fabric after one or more of `events`, from `s` on
abbrev pub IsMoment : List Event → Scene → Fabric → Type 0
IsMoment [] s f = f ≡ fabric_of s.fabric
IsMoment (event ∷ events) s f = (f ≡ fabric_of s.fabric) ⊎ IsMoment events (after_event s event) f

-- the fabric when the step begins: after the events `earlier`, from a quiet scene on
abbrev pub at_first : Scene → List Event → Fabric
at_first quiet earlier = fabric_of (after_events earlier quiet).fabric

-- what wires join to the end port `origin` when the step begins
abbrev pub part_at_first : Scene → List Event → NodePort → Part
part_at_first quiet earlier origin = IsJoinedTo (at_first quiet earlier) origin

-- `P` is true of each switch of the part
abbrev pub AtSwitches : Part → Fabric → (Node → Type 0) → Type 0
AtSwitches part f P =
    (port : NodePort) (node : Node) → IsEndPortIn part f port node → IsTrue (is_switch node.kind) → P node

-- a step towards `goal` is written live in block number `n`: in the course of `events`, agents take Sets that carry
-- the values of `plan`
pub record IsLiveStep (facts : Facts) (rule : StepRuleValue) (held goal : HeldPlan) (plan : PlanValue) (n : ℕ)
    (quiet : Scene) (earlier events : List Event) (origin : NodePort) : Type 0 where
  -- at the start no packet is on its way; then come the events `earlier`, with Sets of any kind, and then `events`
  pub is_quiet : IsQuiet quiet
  pub earlier_can : All CanHappen earlier
  pub events_can : All CanHappen events
  -- in the course of `events`, each Set that an agent takes carries the plan's values
  pub carry : AllSetsCarry plan events (after_events earlier quiet)
  -- when the step begins, the facts describe what is joined to the end port `origin`, and this part holds the tables
  pub end_port : IsEndPort (at_first quiet earlier) origin
  pub seen : IsSeenIn (part_at_first quiet earlier origin) (cells_of facts) held (at_first quiet earlier)
  -- each end port of the part has the LID and the LMC that the plan gives it
  pub lids : (port : NodePort) (node : Node)
      → IsEndPortIn (part_at_first quiet earlier origin) (at_first quiet earlier) port node
      → range_of plan.given (record { node = node.guid; port = port.port })
      ≡ Some (range_at (at_first quiet earlier) port)
  -- the plan's greatest LID
  pub top : ℕ
  pub is_top : top_of plan.given ≡ Some top
  -- the plan has a table for each switch of the part
  pub listed : AtSwitches (part_at_first quiet earlier origin) (at_first quiet earlier)
      (λ node. Contains (switches_of plan) node.guid)
  -- each switch of the part has the plan's greatest LID as its top in the next tables
  pub tops : AtSwitches (part_at_first quiet earlier origin) (at_first quiet earlier)
      (λ node. tables.top_of (next_tables (cells_of facts) rule held goal) node.guid ≡ top)
  -- the plan's blocks are whole, and block number `n` of each switch of the part is that of the next tables
  pub whole : HasWholeBlocks plan
  pub blocks : AtSwitches (part_at_first quiet earlier origin) (at_first quiet earlier)
      (λ node. HasNextBlock plan (next_tables (cells_of facts) rule held goal) top node.guid n)

-- a packet for the LID of `line` that an end port of the part sends, and that the held tables deliver at the port of
-- `line`, is delivered there along at most 2n + 1 wires, where n is the number of usable switches. At each node that
-- the packet reaches, the fabric is as at any moment of the step
abbrev pub ArrivesAllTheWhile : Facts → HeldPlan → HeldLid → Scene → List Event → List Event → NodePort → Type 0
ArrivesAllTheWhile facts held line quiet earlier events origin =
    (fabrics : ℕ → Fabric) → ((k : ℕ) → IsMoment events (after_events earlier quiet) (fabrics k))
    → (source : NodePort) (node : Node)
    → IsEndPortIn (part_at_first quiet earlier origin) (at_first quiet earlier) source node
    → IsBrought (cells_of facts) held line.lid (record { node = node.guid; port = source.port })
    (Some (Taken line.port))
    → ArrivesMeanwhile fabrics line.lid source line.port (2 * length (switches (cells_of facts)) + 1)

-- the LID is one from 1 to `top`, in block number `n`
abbrev pub IsInBlock : ℕ → ℕ → ℕ → Type 0
IsInBlock top n lid = (1 ≤ lid) × (lid ≤ top) × ((i : ℕ) × (i < 64) × (lid ≡ 64 * n + i))

-- while a step by settled entries is written live, packets for each LID in the block arrive (`ArrivesAllTheWhile`), if
-- one end port alone holds the LID, in the held tables and in the goal
abbrev pub PacketsArriveInLiveSteps : Type 0
PacketsArriveInLiveSteps =
    (facts : Facts) (held goal : HeldPlan) (plan : PlanValue) (line : HeldLid) (n : ℕ) (quiet : Scene)
    (earlier events : List Event) (origin : NodePort)
    (step : IsLiveStep facts settled_first held goal plan n quiet earlier events origin)
    → IsInBlock step.top n line.lid → IsKept held goal line
    → ArrivesAllTheWhile facts held line quiet earlier events origin

-- while a step by an order is written live, packets for each LID in the block arrive (`ArrivesAllTheWhile`), if the
-- step is one of the LID's line by this order (`IsLineStep`)
abbrev pub PacketsArriveInOrderedLiveSteps : Type 0
PacketsArriveInOrderedLiveSteps =
    (facts : Facts) (positions : List ℕ) (held goal : HeldPlan) (plan : PlanValue) (line : HeldLid) (n : ℕ)
    (quiet : Scene) (earlier events : List Event) (origin : NodePort)
    (step : IsLiveStep facts (by_order positions) held goal plan n quiet earlier events origin)
    → IsInBlock step.top n line.lid
    → IsLineStep (cells_of facts) (position_at positions) held goal line
    (next_tables (cells_of facts) (by_order positions) held goal)
    → ArrivesAllTheWhile facts held line quiet earlier events origin

-- suppose the positions are an order, one end port alone holds the LID of `line`, in the held tables and in the goal, and
-- both are right for this LID by the order. Then the next tables by the order are a step of the LID's line
abbrev pub KeptLinesAreSteps : Type 0
KeptLinesAreSteps =
    (facts : Facts) (positions : List ℕ) (held goal : HeldPlan) (line : HeldLid)
    → IsOrder (cells_of facts) (position_at positions) → IsKept held goal line
    → AreRight (cells_of facts) (position_at positions) held line.lid
    → AreRight (cells_of facts) (position_at positions) goal line.lid
    → IsLineStep (cells_of facts) (position_at positions) held goal line
    (next_tables (cells_of facts) (by_order positions) held goal)
