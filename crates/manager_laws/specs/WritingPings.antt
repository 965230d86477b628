-- Once the plan of a sweep with every answer is written, pings arrive.
use Rattle.std.specs.Prelude.{◌≡◌, ◌≢◌, ◌≤◌, ℕ, true, List, [], Some, None}
use Rattle.fabric_model.specs.declared.cable.NodePort.{NodePort}
use Rattle.fact_store.specs.View.{cells_of}
use Rattle.fabric_sim.specs.Simulation.{Simulation}
use Rattle.sweep.specs.Sweep.{Sweep}
use Rattle.lft_blocks.specs.Planning.{Planning}
use Rattle.sm_state.specs.declared.conduct.Conduct.{Conduct}
use Rattle.sm_manager.specs.Manager.{begin_fault, new_manager}
use Rattle.sm_manager.specs.Writing.{is_written}
use Rattle.manager_laws.specs.Pings.{EachPingArrives}
use Rattle.manager_laws.specs.Complete.{IsWhole}
use Rattle.manager_laws.specs.Managing.{Managing, ManagerEvent, AllAlong, Begin, Raise, Merge, after_manager_event, after_manager_events}
use Rattle.manager_laws.specs.Written.{IsWritingRun, at_writing, at_end, plan_at}

-- the event begins no sweep, merges no facts of others, and gives no floor above that of the manager's store
abbrev pub BeginsNoSweep : Managing → ManagerEvent → Type 0
BeginsNoSweep w Begin = begin_fault w.manager ≢ None
BeginsNoSweep w (Raise floor) = floor ≤ w.manager.store.floor
BeginsNoSweep w (Merge floor sightings) = (sightings ≡ []) × (floor ≤ w.manager.store.floor)
BeginsNoSweep w event = Unit {0}

-- none of the events begins a sweep, merges facts of others, or gives a floor above that of the manager's store
abbrev pub AreNoSweeps : List ManagerEvent → Managing → Type 0
AreNoSweeps = AllAlong BeginsNoSweep

-- in a writing run, the manager writes the plan of what one sweep told it
pub record WritesItsSweep (w : Managing) (before between after : List ManagerEvent) : Type 0 where
  pub run : IsWritingRun w before between after
  -- the manager holds no facts when the sweep begins; its floor may have been raised
  pub knew_nothing : cells_of (after_manager_events before w).manager.store ≡ []
  -- until the writing the manager learns only from this sweep
  pub alone : AreNoSweeps between (after_manager_event (after_manager_events before w) Begin)

-- in a writing run, the manager writes the plan of what one whole sweep told it
pub record WritesWholeSweep (w : Managing) (before between after : List ManagerEvent) : Type 0 where
  pub writes : WritesItsSweep w before between after
  -- the sweep has every answer, and nothing was out of its reach
  pub sweep : Sweep
  pub is_last : (at_writing w before between).manager.sweep ≡ Some sweep
  pub whole : IsWhole sweep

-- a manager writes the plan of one sweep with every answer (`WritesWholeSweep`). In the end the plan counts as written
pub record BringsUp (w : Managing) (before between after : List ManagerEvent) : Type 0 where
  pub planned : WritesWholeSweep w before between after
  -- the plan is written in the end
  pub written : is_written (at_end w before between after).manager ≡ true

-- each ping in `s` from an end port that `seat` is joined to, for each LID of the plan of the facts that the manager of
-- `w` has, reaches the LID's owner
abbrev pub PlannedPingsArrive : Managing → Simulation → NodePort → Type 0
PlannedPingsArrive w s seat = EachPingArrives w.manager.planning.rule (cells_of w.manager.store) (plan_at w) s seat

-- if a manager brings its subnet up (`BringsUp`), each ping from an end port that the seat is joined to, for each LID
-- of the plan, reaches the LID's owner
abbrev pub PingsArriveOnceWritten : Type 0
PingsArriveOnceWritten =
    (w : Managing) (before between after : List ManagerEvent) → BringsUp w before between after
    → PlannedPingsArrive (at_writing w before between) (at_end w before between after).scene.fabric w.seat

-- a new manager on its fabric, and what happens there: before it sweeps, until it writes, and after the writing began
pub record NewManagersRun : Type 0 where
  pub managing : Managing
  pub port_guid : ℕ
  pub port : ℕ
  pub priority : ℕ
  pub conduct : Conduct
  pub planning : Planning
  pub new : managing.manager ≡ new_manager port_guid port priority conduct planning
  pub before : List ManagerEvent
  pub between : List ManagerEvent
  pub after : List ManagerEvent

-- an example: a new manager that brings a subnet up
pub record SomeManagerBringsUp : Type 0 where
  pub run : NewManagersRun
  pub brings_up : BringsUp run.managing run.before run.between run.after
