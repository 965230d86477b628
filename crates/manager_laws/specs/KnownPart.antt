-- What a manager knows that learned only from one sweep. InfiniBand Architecture Specification, Volume 1: subnet
-- management, topology discovery.
use Rattle.std.specs.Prelude.{◌≡◌, List, [], All, None, Some}
use Rattle.fabric_model.specs.FabricWalks.{IsJoinedTo}
use Rattle.fact_store.specs.View.{cells_of}
use Rattle.subnet_view.specs.FabricAgreement.{AgreesOn}
use Rattle.fabric_sim.specs.Simulation.{fabric_of}
use Rattle.sweep.specs.Sweep.{Sweep}
use Rattle.sm_manager.specs.Manager.{begin_fault}
use Rattle.manager_laws.specs.Complete.{IsWhole}
use Rattle.manager_laws.specs.Managing.{Managing, ManagerEvent, Begin, CanBe, Starts, after_manager_event, after_manager_events}
use Rattle.manager_laws.specs.WritingPings.{AreNoSweeps}
use Rattle.manager_laws.specs.Written.{SweepsFirst}

-- the `Managing` some events after the beginning of a sweep, which is after the events `before`
abbrev pub after_sweep : Managing → List ManagerEvent → List ManagerEvent → Managing
after_sweep w before between = after_manager_events between (after_manager_event (after_manager_events before w) Begin)

-- a run that may start begins a sweep after the events `before`, of which the first may be earlier sweeps and writings.
-- The manager holds no facts then, and through the events `between` it learns only from this sweep, which has every
-- answer in the end
pub record HasSweptOnce (w : Managing) (before between : List ManagerEvent) : Type 0 where
  pub starts : Starts w
  pub before_can : All (CanBe w.seat) before
  pub between_can : All (CanBe w.seat) between
  -- no writing begins before a sweep
  pub sweeps_first : SweepsFirst before w
  -- the sweep is not refused
  pub sweep_begins : begin_fault (after_manager_events before w).manager ≡ None
  pub knew_nothing : cells_of (after_manager_events before w).manager.store ≡ []
  pub alone : AreNoSweeps between (after_manager_event (after_manager_events before w) Begin)
  pub sweep : Sweep
  pub is_last : (after_sweep w before between).manager.sweep ≡ Some sweep
  pub whole : IsWhole sweep

-- then the manager's facts describe exactly the part that is joined to its seat
abbrev pub KnowsItsPart : Type 0
KnowsItsPart =
    (w : Managing) (before between : List ManagerEvent) → HasSweptOnce w before between
    → AgreesOn (IsJoinedTo (fabric_of (after_sweep w before between).scene.fabric) w.seat)
    (cells_of (after_sweep w before between).manager.store) (fabric_of (after_sweep w before between).scene.fabric)
