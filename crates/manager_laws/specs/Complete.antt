-- A sweep with every answer has found exactly the part of the fabric that is joined to its seat.
use Rattle.std.specs.Prelude.{◌≡◌, ℕ, true, List, Some, All, flat_map}
use Rattle.fabric_model.specs.declared.cable.NodePort.{NodePort}
use Rattle.fabric_model.specs.Fabric.{Fabric, IsNodeAt, Node}
use Rattle.fabric_model.specs.FabricWalks.{vertex_of, IsJoinedTo}
use Rattle.fabric_model.specs.DirectedWalk.{directed_end}
use Rattle.reply_facts.specs.declared.report.Report.{Report}
use Rattle.reply_facts.specs.Report.{sightings_of}
use Rattle.fact_store.specs.View.{Facts, cells_of, view}
use Rattle.subnet_view.specs.EndPort.{IsEndPort}
use Rattle.subnet_view.specs.FabricAgreement.{AgreesOn}
use Rattle.fabric_sim.specs.Simulation.{Simulation, fabric_of}
use Rattle.sweep.specs.Sweep.{Sweep, is_done, path_to}
use Rattle.lid_assign.specs.Lids.{IsNoRoom}
use Rattle.lft_blocks.specs.Rule.{RuleValue}
use Rattle.lft_blocks.specs.Plan.{plan_of}
use Rattle.lft_blocks.specs.InForce.{HoldsPlan}
use Rattle.manager_laws.specs.Pings.{EachPingArrives}
use Rattle.manager_laws.specs.Sweeping.{Sweeping, SweepEvent, CanBe, Begins, after_sweep_events}

-- the sweep has every answer: no request is queued or outstanding. Only requests for SMInfo, which has no facts, were
-- not answered. No request would have needed a path of more than 63 ports
pub record IsWhole (s : Sweep) : Type 0 where
  pub done : is_done s ≡ true
  pub answered : s.unanswered ≡ s.silent_managers
  pub near : s.too_far ≡ 0

-- the facts of `reports`, taken together
abbrev pub facts_of : List Report → Facts
facts_of reports = view (flat_map sightings_of reports)

-- the facts of `reports` describe exactly the part of the simulated fabric `s` that is joined to the end port `seat`
abbrev pub AgreeWith : List Report → Simulation → NodePort → Type 0
AgreeWith reports s seat = AgreesOn (IsJoinedTo (fabric_of s) seat) (cells_of (facts_of reports)) (fabric_of s)

-- the sweep has a path to the port `port` of the node with the GUID `guid`. In `f`, this path leads from `seat` to
-- that port if the node is an adapter, or to some port of the node if it is a switch, for which `port` is 0
pub record HasWay (f : Fabric) (seat : NodePort) (s : Sweep) (guid port : ℕ) : Type 0 where
  pub path : List ℕ
  pub told : path_to s guid port ≡ Some path
  pub end : NodePort
  pub leads : directed_end f seat path ≡ Some end
  pub node : Node
  pub there : IsNodeAt f end.node node
  pub named : node.guid ≡ guid
  pub vertex : vertex_of f end ≡ record { node = end.node; port = port }

-- the reports of `ended` describe exactly the part that is joined to the seat, both as the part is in `begun` and as it
-- is in `ended`; and the sweep of `ended` has a path to each end port of these reports
pub record HasFoundAll (begun ended : Sweeping) : Type 0 where
  pub at_first : AgreeWith ended.reports begun.scene.fabric begun.seat
  pub at_last : AgreeWith ended.reports ended.scene.fabric begun.seat
  pub ways : (guid port : ℕ) → IsEndPort (cells_of (facts_of ended.reports)) guid port
      → HasWay (fabric_of begun.scene.fabric) begun.seat ended.sweep guid port

-- if a sweep began on a quiet scene whose nodes have different GUIDs (`Begins`), and has every answer, it has found
-- exactly what is joined to its seat. Any possible events (`CanBe`) may have happened since the sweep began
abbrev pub DoneSweepsAreComplete : Type 0
DoneSweepsAreComplete =
    (w : Sweeping) (generation first : ℕ) (events : List SweepEvent) → Begins w generation first → All CanBe events
    → IsWhole (after_sweep_events events w).sweep → HasFoundAll w (after_sweep_events events w)

-- if a sweep has every answer, its facts have room, and the part that is joined to the sweep's seat holds the plan of
-- these facts, each ping within this part arrives
abbrev pub SweptPingsArrive : Type 0
SweptPingsArrive =
    (rule : RuleValue) (lmc : ℕ) (w : Sweeping) (generation first : ℕ) (events : List SweepEvent)
    → Begins w generation first → All CanBe events
    → IsWhole (after_sweep_events events w).sweep
    → let ended = after_sweep_events events w in
    let cells = cells_of (facts_of ended.reports) in
    let f = fabric_of ended.scene.fabric in
    ¬ (IsNoRoom lmc cells) → HoldsPlan (IsJoinedTo f w.seat) (plan_of rule lmc cells) f
    → EachPingArrives rule cells (plan_of rule lmc cells) ended.scene.fabric w.seat

-- an example: a fabric, and events after which a sweep on it has every answer
pub record SomeSweepIsWhole : Type 0 where
  pub sweeping : Sweeping
  pub generation : ℕ
  pub first : ℕ
  pub events : List SweepEvent
  pub begins : Begins sweeping generation first
  pub can_be : All CanBe events
  pub whole : IsWhole (after_sweep_events events sweeping).sweep

-- an example: a sweep that has every answer although a manager is silent
pub record SomeManagerIsSilent : Type 0 where
  pub some : SomeSweepIsWhole
  pub silent : (after_sweep_events some.events some.sweeping).sweep.silent_managers ≡ 1
