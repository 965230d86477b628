-- What a manager that decides by itself writes: what its last sweep saw, and nothing else. InfiniBand Architecture
-- Specification, Volume 1: subnet management, topology discovery; initialization.
use Rattle.std.specs.Prelude.{◌≡◌, ◌<◌, ◌^◌, ◌⊎◌, ℕ, Bool, true, false, ◌&&◌, not, List, [], ◌∷◌, Some, None}
use Rattle.std.specs.List.{AllByRecursion}
use Rattle.fact_store.specs.View.{cells_of}
use Rattle.plan_steps.specs.Planning.{Planning}
use Rattle.sm_state.specs.declared.conduct.Conduct.{Conduct}
use Rattle.sweep.specs.Sweep.{Sweep}
use Rattle.sm_manager.specs.Manager.{begin_fault, emptied, new_manager}
use Rattle.sm_manager.specs.PlanFaults.{writing_fault}
use Rattle.sm_policy.specs.Policy.{patience}
use Rattle.sm_policy.specs.declared.policy.Policy.{Policy}
use Rattle.sm_policy.specs.declared.timing.Timing.{Timing}
use Rattle.request_window.specs.declared.limits.Limits.{Limits}
use Rattle.acting_manager.specs.Acting.{new_acting}
use Rattle.acting_manager.specs.Working.{is_writing}
use Rattle.manager_laws.specs.Complete.{IsWhole}
use Rattle.manager_laws.specs.Managing as managing
use Rattle.manager_laws.specs.Managing.{CanBe, Managing, ManagerEvent, after_manager_event, after_manager_events}
use Rattle.manager_laws.specs.WritingPings.{AreNoSweeps}
use Rattle.manager_laws.specs.Written.{BeginsNoWriting, at_first_steps, at_writing}
use Rattle.program_laws.specs.Deciding.{CanDecide, Deciding, DecidingEvent, LeadsTo, StandsFor}
use Rattle.program_laws.specs.Deciding.{after_deciding_event, after_deciding_events}

-- the manager that decides by itself is new: it has decided nothing yet, and the manager that it decides for is new.
-- `newest` is the generation above which those of its sweeps begin
pub record IsNew (d : Deciding) : Type 0 where
  pub port_guid : ℕ
  pub port : ℕ
  pub priority : ℕ
  pub conduct : Conduct
  pub planning : Planning
  pub timing : Timing
  pub limits : Limits
  pub newest : ℕ
  pub few : newest < 2 ^ 32
  pub acting : d.acting
      ≡ new_acting (new_manager port_guid port priority conduct planning) timing limits newest
  pub printed : d.printed ≡ []

-- the manager of `d` at its seat, which has given out no packet
abbrev pub managing_of : Deciding → Managing
managing_of d = record { scene = d.scene; seat = d.seat; manager = d.acting.manager; out = [] }

-- writings ------------------------------------------------------------------------------------------

-- whether the manager is about a writing
abbrev pub does_write : Deciding → Bool
does_write d = is_writing d.acting.policy.activity

-- whether the event begins a writing: the manager was not about one, and is afterwards
abbrev pub begins_writing : Deciding → DecidingEvent → Bool
begins_writing d event = not (does_write d) && does_write (after_deciding_event d event)

-- none of the events begins a writing
abbrev pub NoneBegins : List DecidingEvent → Deciding → Type 0
NoneBegins [] d = Unit {0}
NoneBegins (event ∷ events) d = (begins_writing d event ≡ false) × NoneBegins events (after_deciding_event d event)

-- the event happens to the manager. It begins no sweep and no writing, raises no floor, and brings in no facts of others
abbrev pub IsQuiet : ManagerEvent → Type 0
IsQuiet (managing.Around event) = ⊥
IsQuiet managing.Begin = ⊥
IsQuiet managing.Write = ⊥
IsQuiet (managing.Send which) = ⊥
IsQuiet (managing.Raise floor) = ⊥
IsQuiet (managing.Merge floor sightings) = ⊥
IsQuiet event = Unit {0}

-- a manager may write after the sweep `s`: it has every answer; or the manager is not strict, and more sweeps in a row
-- than it has patience for lacked answers, this one the last
abbrev pub MayWrite : Policy → Sweep → Type 0
MayWrite p s = IsWhole s ⊎ ((p.timing.is_strict ≡ false) × (patience < p.gaps))

-- the manager of `d` has just begun to write what its last sweep saw. Events of a manager lead from `w` to `d`: those
-- before the sweep, those from its beginning to the writing, and those from then on
pub record WritesOneSweep (w : Managing) (d : Deciding) : Type 0 where
  pub before : List ManagerEvent
  pub between : List ManagerEvent
  pub later : List ManagerEvent
  pub before_can : AllByRecursion (CanBe w.seat) before
  pub between_can : AllByRecursion (CanBe w.seat) between
  pub later_can : AllByRecursion (CanBe w.seat) later
  -- the sweep began, and the manager held no facts then
  pub sweep_begins : begin_fault (after_manager_events before w).manager ≡ None
  pub knew_nothing : cells_of (after_manager_events before w).manager.store ≡ []
  -- until the writing the manager learned only from this sweep
  pub alone : AreNoSweeps between (after_manager_event (after_manager_events before w) managing.Begin)
  -- the writing began: the manager was master, and no sweep and no other writing was running
  pub writing_begins : writing_fault (at_writing w before between).manager ≡ None
  -- since then it only gave out its packets
  pub given : d.acting.manager ≡ emptied (at_first_steps w before between).manager
  pub quiet : AllByRecursion IsQuiet later
  pub stands : StandsFor (after_manager_events later (at_first_steps w before between)) d
  -- the sweep is one after which the manager may write
  pub sweep : Sweep
  pub is_last : d.acting.manager.sweep ≡ Some sweep
  pub may : MayWrite d.acting.policy sweep

-- whatever is told to a new manager that decides by itself, and whatever happens around it, each writing that it begins
-- is of what its last sweep saw, which began without facts (`WritesOneSweep`)
abbrev pub WritesWhatOneSweepSaw : Type 0
WritesWhatOneSweepSaw =
    (d : Deciding) (events : List DecidingEvent) (event : DecidingEvent) → IsNew d
    → AllByRecursion (CanDecide d.seat) events → CanDecide d.seat event
    → begins_writing (after_deciding_events events d) event ≡ true
    → WritesOneSweep (managing_of d) (after_deciding_event (after_deciding_events events d) event)

-- none of the events begins a writing of the manager
abbrev pub BeginNoWriting : List ManagerEvent → Managing → Type 0
BeginNoWriting [] w = Unit {0}
BeginNoWriting (event ∷ events) w = BeginsNoWriting w event × BeginNoWriting events (after_manager_event w event)

-- some possible events of a manager, none of which begins a writing, lead from `w` to one that stands for `d`
pub record LeadsWithout (w : Managing) (d : Deciding) : Type 0 where
  pub leads : LeadsTo w d
  pub none : BeginNoWriting leads.events w

-- let a manager stand for one that decides by itself. By each event that begins no writing of the latter
-- (`begins_writing`), events of the manager lead on, none of which begins a writing
abbrev pub WritesNothingElse : Type 0
WritesNothingElse =
    (w : Managing) (d : Deciding) (event : DecidingEvent) → StandsFor w d → CanDecide d.seat event
    → begins_writing d event ≡ false → LeadsWithout w (after_deciding_event d event)
