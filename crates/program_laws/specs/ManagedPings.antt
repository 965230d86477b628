-- Once a manager that decides by itself has written its plan, pings arrive. InfiniBand Architecture Specification,
-- Volume 1: subnet management, initialization.
use Rattle.std.specs.Prelude.{◌≡◌, true, false, List, [], ◌∷◌, Some}
use Rattle.std.specs.List.{AllByRecursion}
use Rattle.fact_store.specs.View.{cells_of}
use Rattle.lft_blocks.specs.Plan.{PlanValue}
use Rattle.sweep.specs.Sweep.{Sweep}
use Rattle.sm_manager.specs.Writing.{is_written}
use Rattle.manager_laws.specs.Complete.{IsWhole}
use Rattle.manager_laws.specs.Managing.{Starts}
use Rattle.manager_laws.specs.Pings.{EachPingArrives}
use Rattle.manager_laws.specs.Sets.{KeepsPlan, OwnSets}
use Rattle.manager_laws.specs.Written.{own_sets, plan_at}
use Rattle.program_laws.specs.Deciding.{Around, CanDecide, Deciding, DecidingEvent, Send}
use Rattle.program_laws.specs.Deciding.{after_deciding_event, after_deciding_events}
use Rattle.program_laws.specs.ManagedWritings.{IsNew, begins_writing, managing_of}

-- the event keeps the plan: the manager begins no writing, and each Set that an agent takes is one of the writing's own
-- or carries the plan's values
abbrev pub KeepsManaged : PlanValue → OwnSets → Deciding → DecidingEvent → Type 0
KeepsManaged plan own d (Around event) = KeepsPlan plan own d.scene.fabric event
KeepsManaged plan own d (Send which) = Unit {0}
KeepsManaged plan own d event = begins_writing d event ≡ false

-- by none of the events the manager begins a writing, and each Set that an agent takes by them is one of the writing's
-- own or carries the plan's values
abbrev pub AllKeepManaged : PlanValue → OwnSets → List DecidingEvent → Deciding → Type 0
AllKeepManaged plan own [] d = Unit {0}
AllKeepManaged plan own (event ∷ events) d =
    KeepsManaged plan own d event × AllKeepManaged plan own events (after_deciding_event d event)

-- `d` once the manager has begun to write, by the event `begins` after `before`. What it writes is the plan of its
-- facts
abbrev pub managed_at_writing : Deciding → List DecidingEvent → DecidingEvent → Deciding
managed_at_writing d before begins = after_deciding_event (after_deciding_events before d) begins

-- `d` at the end of the run: after the events `before`, the event that begins the writing, and the events `after`
abbrev pub managed_at_end : Deciding → List DecidingEvent → DecidingEvent → List DecidingEvent → Deciding
managed_at_end d before begins after = after_deciding_events after (managed_at_writing d before begins)

-- a new manager that decides by itself writes its plan, and it counts as written in the end. This is the last writing
-- of the run that it began
pub record BringsUpManaged (d : Deciding) (before : List DecidingEvent) (begins : DecidingEvent) (after : List DecidingEvent)
    : Type 0 where
  pub new : IsNew d
  -- no packet is on its way, GUIDs differ, and the manager sits at its seat
  pub starts : Starts (managing_of d)
  pub before_can : AllByRecursion (CanDecide d.seat) before
  pub begins_can : CanDecide d.seat begins
  pub after_can : AllByRecursion (CanDecide d.seat) after
  pub writes : begins_writing (after_deciding_events before d) begins ≡ true
  -- its sweep had every answer, and nothing was out of its reach
  pub sweep : Sweep
  pub is_last : (managed_at_writing d before begins).acting.manager.sweep ≡ Some sweep
  pub whole : IsWhole sweep
  -- from then on it begins no other writing, and each Set that an agent takes is one of the writing's own or carries
  -- the plan's values
  pub keep : AllKeepManaged (plan_at (managing_of (managed_at_writing d before begins)))
      (own_sets (managing_of d) (managing_of (managed_at_writing d before begins)))
      after (managed_at_writing d before begins)
  -- the plan is written in the end
  pub written : is_written (managed_at_end d before begins after).acting.manager ≡ true

-- if a manager that decides by itself brings its subnet up (`BringsUpManaged`), each ping from an end port that the seat
-- is joined to, for each LID of the plan, reaches the LID's owner
abbrev pub ManagedPingsArrive : Type 0
ManagedPingsArrive =
    (d : Deciding) (before : List DecidingEvent) (begins : DecidingEvent) (after : List DecidingEvent)
    → BringsUpManaged d before begins after
    → EachPingArrives (managed_at_writing d before begins).acting.manager.planning.rule
    (cells_of (managed_at_writing d before begins).acting.manager.store)
    (plan_at (managing_of (managed_at_writing d before begins)))
    (managed_at_end d before begins after).scene.fabric d.seat

-- an example: a manager that decides by itself and brings a subnet up, with what happens at its seat
pub record SomeManagerDecides : Type 0 where
  pub deciding : Deciding
  pub before : List DecidingEvent
  pub begins : DecidingEvent
  pub after : List DecidingEvent
  pub brings_up : BringsUpManaged deciding before begins after
