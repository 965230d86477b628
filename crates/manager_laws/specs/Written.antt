-- Once a plan is written, the fabric holds it as far as the sweep before the writing reached, whatever else happened.
-- InfiniBand Architecture Specification, Volume 1: subnet management, initialization.
use Rattle.std.specs.Prelude.{◌≡◌, ◌≢◌, ◌⊎◌, ℕ, true, List, [], ◌∷◌, All, Contains, Some, None}
use Rattle.fabric_model.specs.declared.cable.NodePort.{NodePort}
use Rattle.fabric_model.specs.Fabric as fabric
use Rattle.fabric_model.specs.Fabric.{Fabric, range_at, IsPortNamed}
use Rattle.fact_store.specs.View.{cells_of}
use Rattle.subnet_view.specs.declared.end_port.EndPort.{EndPort}
use Rattle.lid_assign.specs.Lids.{range_of, top_of}
use Rattle.lft_blocks.specs.Plan.{PlanValue, plan_of, block_at, switches_of}
use Rattle.lft_blocks.specs.InForce.{HoldsBlock}
use Rattle.fabric_sim.specs.Simulation.{fabric_of}
use Rattle.sweep.specs.Sweep.{Sweep, IsReached}
use Rattle.lft_blocks.specs.Planning.{Planning}
use Rattle.sm_state.specs.declared.conduct.Conduct.{Conduct}
use Rattle.sm_manager.specs.Manager.{begin_fault, new_manager}
use Rattle.sm_manager.specs.PlanFaults.{writing_fault}
use Rattle.sm_manager.specs.Writing.{is_written, phases_by}
use Rattle.manager_laws.specs.Truth.{HasNode}
use Rattle.manager_laws.specs.Managing.{Managing, ManagerEvent, AllAlong, Around, Begin, Write, CanBe, Starts}
use Rattle.manager_laws.specs.Managing.{after_manager_event, after_manager_events}
use Rattle.manager_laws.specs.Sets.{IsOwnSet, OwnSets, KeepsPlan}

-- a plan where a sweep reached ----------------------------------------------------------------------

-- in the fabric, each end port and each switch of the plan that the sweep reached holds its values in the plan
pub record IsHeldWhere (plan : PlanValue) (s : Sweep) (f : Fabric) : Type 0 where
  pub lids : (e : EndPort) (range : ℕ × ℕ) (port : NodePort) → range_of plan.given e ≡ Some range
      → IsReached s e.node e.port
      → IsPortNamed f e.node e.port port → range_at f port ≡ range
  pub tops : (guid top id : ℕ) (node : fabric.Node) → top_of plan.given ≡ Some top → Contains (switches_of plan) guid
      → IsReached s guid 0
      → HasNode f guid id node → f.top id ≡ top
  pub blocks : (guid b id : ℕ) (block : List ℕ) (node : fabric.Node) → block_at plan guid b ≡ Some block
      → IsReached s guid 0
      → HasNode f guid id node → HoldsBlock f id b block

-- runs -------------------------------------------------------------------------------------------

-- the event begins a sweep, which is not refused
abbrev pub BeginsSweep : Managing → ManagerEvent → Type 0
BeginsSweep w Begin = begin_fault w.manager ≡ None
BeginsSweep w event = ⊥

-- the event begins no writing: it asks for none, or the writing is refused
abbrev pub BeginsNoWriting : Managing → ManagerEvent → Type 0
BeginsNoWriting w Write = writing_fault w.manager ≢ None
BeginsNoWriting w event = Unit {0}

-- in these events, no writing begins before a sweep begins
abbrev pub SweepsFirst : List ManagerEvent → Managing → Type 0
SweepsFirst [] w = Unit {0}
SweepsFirst (event ∷ events) w =
    BeginsSweep w event ⊎ (BeginsNoWriting w event × SweepsFirst events (after_manager_event w event))

-- a new manager begins no writing before it begins a sweep, whatever happens to it
abbrev pub NewManagersSweepFirst : Type 0
NewManagersSweepFirst =
    (port_guid port priority : ℕ) (conduct : Conduct) (planning : Planning) (w : Managing) (events : List ManagerEvent) → w.manager
    ≡ new_manager port_guid port priority conduct planning
    → SweepsFirst events w

-- the event begins no writing, and each Set that an agent takes by it is one of the writing's own or carries the plan's
-- values
abbrev pub Keeps : PlanValue → OwnSets → Managing → ManagerEvent → Type 0
Keeps plan own w (Around event) = KeepsPlan plan own w.scene.fabric event
Keeps plan own w event = BeginsNoWriting w event

-- none of the events begins a writing, and each Set that an agent takes by them is one of the writing's own or carries
-- the plan's values
abbrev pub AllKeep : PlanValue → OwnSets → List ManagerEvent → Managing → Type 0
AllKeep plan own = AllAlong (Keeps plan own)

-- the `Managing` when the writing begins: after the events `before`, the beginning of a sweep, and the events
-- `between`
abbrev pub at_writing : Managing → List ManagerEvent → List ManagerEvent → Managing
at_writing w before between = after_manager_events between (after_manager_event (after_manager_events before w) Begin)

-- the plan of the manager's facts, by its rule and LMC
abbrev pub plan_at : Managing → PlanValue
plan_at w = plan_of w.manager.planning.rule w.manager.planning.lmc (cells_of w.manager.store)

-- the Sets of the steps that the manager of `w` writes, from the seat and in the fabric of `start`
abbrev pub own_sets : Managing → Managing → OwnSets
own_sets start w = IsOwnSet (fabric_of start.scene.fabric) start.seat (phases_by w.manager w.manager.sweep)

-- the `Managing` once the writing has begun and its first steps are queued: after `before`, a sweep's beginning and
-- `between`
abbrev pub at_first_steps : Managing → List ManagerEvent → List ManagerEvent → Managing
at_first_steps w before between = after_manager_event (at_writing w before between) Write

-- the `Managing` at the end of the run: after `before`, a sweep's beginning, `between`, a writing's beginning, and
-- `after`
abbrev pub at_end : Managing → List ManagerEvent → List ManagerEvent → List ManagerEvent → Managing
at_end w before between after = after_manager_events after (at_first_steps w before between)

-- a run that may start begins a sweep and, after the events `between`, a writing. No other writing begins before the
-- first sweep or after this writing. Each Set that an agent takes after the writing began is one of the writing's own
-- or carries the plan's values
pub record IsWritingRun (w : Managing) (before between after : List ManagerEvent) : Type 0 where
  pub starts : Starts w
  -- only possible events (`CanBe`) happen before the sweep, between the sweep and the writing, and after the writing
  -- began
  pub before_can : All (CanBe w.seat) before
  pub between_can : All (CanBe w.seat) between
  pub after_can : All (CanBe w.seat) after
  -- no writing begins before a sweep, and thus none goes along the paths of a sweep from before the run
  pub sweeps_first : SweepsFirst before w
  -- neither the sweep nor the writing is refused
  pub sweep_begins : begin_fault (after_manager_events before w).manager ≡ None
  pub writing_begins : writing_fault (at_writing w before between).manager ≡ None
  -- after the writing began, no other writing begins, and each Set that an agent takes is one of the writing's own or
  -- carries the plan's values
  pub keep : AllKeep (plan_at (at_writing w before between)) (own_sets w (at_writing w before between)) after
      (at_first_steps w before between)

-- at the end of a writing run, if the plan counts as written, each end port and switch that the last sweep before the
-- writing reached holds the plan
abbrev pub WrittenPlansAreHeld : Type 0
WrittenPlansAreHeld =
    (w : Managing) (before between after : List ManagerEvent) → IsWritingRun w before between after
    → is_written (at_end w before between after).manager ≡ true
    → (s : Sweep) → (at_writing w before between).manager.sweep ≡ Some s
    → IsHeldWhere (plan_at (at_writing w before between)) s (fabric_of (at_end w before between after).scene.fabric)
