-- Once a manager that decides by itself has ended its writing, and gave nothing up while it swept and wrote, pings arrive.
-- InfiniBand Architecture Specification, Volume 1: subnet management, topology discovery; initialization.
use Rattle.std.specs.Prelude.{◌≡◌, true, false, List, [], ◌∷◌, ◌++◌}
use Rattle.std.specs.List.{AllByRecursion}
use Rattle.fact_store.specs.View.{cells_of}
use Rattle.sm_policy.specs.Policy.{is_sweeping}
use Rattle.acting_manager.specs.Working.{is_writing}
use Rattle.manager_laws.specs.Managing.{Starts}
use Rattle.manager_laws.specs.Pings.{EachPingArrives}
use Rattle.manager_laws.specs.Written.{own_sets, plan_at}
use Rattle.program_laws.specs.Deciding.{CanDecide, Deciding, DecidingEvent, after_deciding_event, after_deciding_events}
use Rattle.program_laws.specs.ManagedEnds.{StaysAbout}
use Rattle.program_laws.specs.ManagedPings.{AllKeepManaged, managed_at_end, managed_at_writing}
use Rattle.program_laws.specs.ManagedWritings.{IsNew, begins_writing, managing_of}
use Rattle.program_laws.specs.SweepTime.{lines_of}
use Rattle.program_laws.specs.Wakes.{AtEachLine, NoneLeaves}
use Rattle.program_laws.specs.WholeSweeps.{NothingGivenUp, too_far_in}
use Rattle.program_laws.specs.AnsweredWritings.{KeepsWriting}

-- a new manager that decides by itself begins its last writing by the event `begins`
pub record WritesManaged (d : Deciding) (before : List DecidingEvent) (begins : DecidingEvent) (after : List DecidingEvent)
    : Type 0 where
  pub new : IsNew d
  -- no packet is on its way, GUIDs differ, and the manager sits at its seat
  pub starts : Starts (managing_of d)
  pub before_can : AllByRecursion (CanDecide d.seat) before
  pub begins_can : CanDecide d.seat begins
  pub after_can : AllByRecursion (CanDecide d.seat) after
  pub writes : begins_writing (after_deciding_events before d) begins ≡ true
  -- from then on it begins no other writing, and each Set that an agent takes is one of the writing's own or carries
  -- the plan's values
  pub keep : AllKeepManaged (plan_at (managing_of (managed_at_writing d before begins)))
      (own_sets (managing_of d) (managing_of (managed_at_writing d before begins)))
      after (managed_at_writing d before begins)

-- the event begins a sweep that goes on through the events `between`
pub record SweepsFrom (d : Deciding) (event : DecidingEvent) (between : List DecidingEvent) : Type 0 where
  pub quiet : is_sweeping d.acting.policy.activity ≡ false
  pub begins : is_sweeping (after_deciding_event d event).acting.policy.activity ≡ true
  pub goes_on : StaysAbout is_sweeping (lines_of between (after_deciding_event d event)) (after_deciding_event d event).acting

-- the events `during` of the writing that `begins` begins, up to its end by the event `ends`
abbrev pub writing_from : DecidingEvent → List DecidingEvent → DecidingEvent → List DecidingEvent
writing_from begins during ends = begins ∷ (during ++ ends ∷ [])

-- a new manager that decides by itself begins a sweep by the event `sweeps`, its last writing by the event `begins`, and
-- ends that by the event `ends`
pub record IsAnsweredManaged (d : Deciding) (earlier : List DecidingEvent) (sweeps : DecidingEvent) (between : List DecidingEvent)
    (begins : DecidingEvent) (during : List DecidingEvent) (ends : DecidingEvent) (later : List DecidingEvent) : Type 0 where
  pub writes : WritesManaged d (earlier ++ sweeps ∷ between) begins (during ++ ends ∷ later)
  pub swept : SweepsFrom (after_deciding_events earlier d) sweeps between
  pub goes_on : StaysAbout is_writing (lines_of during (managed_at_writing d (earlier ++ sweeps ∷ between) begins))
      (managed_at_writing d (earlier ++ sweeps ∷ between) begins).acting
  pub over : is_writing (managed_at_end d (earlier ++ sweeps ∷ between) begins (during ++ ends ∷ [])).acting.policy.activity ≡ false
  -- nobody tells it to leave
  pub none_leaves : NoneLeaves (lines_of ((earlier ++ sweeps ∷ between) ++ begins ∷ (during ++ ends ∷ later)) d)
  -- it gave no request up from the beginning of the sweep to the end of the writing, nor what it wrote, and no port led too
  -- far
  pub none_lost : NothingGivenUp
      (lines_of (between ++ writing_from begins during ends) (after_deciding_event (after_deciding_events earlier d) sweeps))
      (after_deciding_event (after_deciding_events earlier d) sweeps).acting
  pub kept_on : AtEachLine KeepsWriting (lines_of (during ++ ends ∷ []) (managed_at_writing d (earlier ++ sweeps ∷ between) begins))
      (managed_at_writing d (earlier ++ sweeps ∷ between) begins).acting
  pub near : too_far_in (managed_at_writing d (earlier ++ sweeps ∷ between) begins).acting.manager.sweep ≡ 0

-- then each ping from an end port that the seat is joined to, for each LID of the plan, reaches the LID's owner
abbrev pub AnsweredPingsArrive : Type 0
AnsweredPingsArrive =
    (d : Deciding) (earlier : List DecidingEvent) (sweeps : DecidingEvent) (between : List DecidingEvent)
    (begins : DecidingEvent) (during : List DecidingEvent) (ends : DecidingEvent) (later : List DecidingEvent)
    → IsAnsweredManaged d earlier sweeps between begins during ends later
    → EachPingArrives (managed_at_writing d (earlier ++ sweeps ∷ between) begins).acting.manager.planning.rule
    (cells_of (managed_at_writing d (earlier ++ sweeps ∷ between) begins).acting.manager.store)
    (plan_at (managing_of (managed_at_writing d (earlier ++ sweeps ∷ between) begins)))
    (managed_at_end d (earlier ++ sweeps ∷ between) begins (during ++ ends ∷ later)).scene.fabric d.seat
