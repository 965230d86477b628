-- A manager that decides by itself, at its seat on a fabric, brings its subnet up before long, whatever it is about at first,
-- if all goes well. InfiniBand Architecture Specification, Volume 1: subnet management, subnet manager (sweeping),
-- initialization.
use Rattle.std.specs.Prelude.{◌≡◌, ◌<◌, ◌+◌, ◌*◌, ℕ, true, List, [], ◌∷◌, ◌++◌}
use Rattle.std.specs.List.{AllByRecursion}
use Rattle.fact_store.specs.View.{cells_of}
use Rattle.lft_blocks.specs.Plan.{PlanValue}
use Rattle.sm_policy.specs.PolicyLaws.{longest_wait}
use Rattle.manager_laws.specs.Managing.{Starts}
use Rattle.manager_laws.specs.Pings.{EachPingArrives}
use Rattle.manager_laws.specs.Sets.{KeepsPlan, OwnSets}
use Rattle.manager_laws.specs.Written.{own_sets, plan_at}
use Rattle.program_laws.specs.Deciding.{Around, CanDecide, Deciding, DecidingEvent, after_deciding_event, after_deciding_events}
use Rattle.program_laws.specs.AnsweredWritings.{KeepsWriting}
use Rattle.program_laws.specs.Healing.{IsUndisturbedBy}
use Rattle.program_laws.specs.ManagedPings.{managed_at_end, managed_at_writing}
use Rattle.program_laws.specs.ManagedWritings.{IsNew, NoneBegins, begins_writing, managing_of}
use Rattle.program_laws.specs.SweepTime.{lines_of}
use Rattle.program_laws.specs.Wakes.{ArePrompt, longest_turn}

-- what happens around the manager keeps the plan: each Set that an agent takes is one of the writing's own or carries the
-- plan's values
abbrev pub OthersKeep : PlanValue → OwnSets → List DecidingEvent → Deciding → Type 0
OthersKeep plan own [] d = Unit {0}
OthersKeep plan own (Around event ∷ events) d =
    KeepsPlan plan own d.scene.fabric event × OthersKeep plan own events (after_deciding_event d (Around event))
OthersKeep plan own (event ∷ events) d = OthersKeep plan own events (after_deciding_event d event)

-- a new manager that decides by itself sits at its seat, and nothing is on its way. After the events `before` all goes well
-- for it, through the events `events`; of what it writes only this is asked, that it does not give it up
pub record IsUndisturbedAt (n : ℕ) (d : Deciding) (before events : List DecidingEvent) : Type 0 where
  pub new : IsNew d
  pub starts : Starts (managing_of d)
  pub before_can : AllByRecursion (CanDecide d.seat) before
  pub events_can : AllByRecursion (CanDecide d.seat) events
  pub undisturbed : IsUndisturbedBy KeepsWriting n (after_deciding_events before d).acting (lines_of events (after_deciding_events before d))

-- at some moment in the events, after `first`, the plan of the last writing, which the event `begins` began, serves: if the
-- manager was strict when it began, and others kept the plan since then, each ping from an end port that the seat is joined
-- to, for each LID of the plan, reaches the LID's owner
pub record ServesAt (d : Deciding) (before events : List DecidingEvent) : Type 0 where
  pub first : List DecidingEvent
  pub later : List DecidingEvent
  pub are : events ≡ first ++ later
  pub earlier : List DecidingEvent
  pub begins : DecidingEvent
  pub since : List DecidingEvent
  pub until : before ++ first ≡ earlier ++ begins ∷ since
  pub writes : begins_writing (after_deciding_events earlier d) begins ≡ true
  pub is_last : NoneBegins since (managed_at_writing d earlier begins)
  pub serves : (managed_at_writing d earlier begins).acting.policy.timing.is_strict ≡ true
      → OthersKeep (plan_at (managing_of (managed_at_writing d earlier begins)))
      (own_sets (managing_of d) (managing_of (managed_at_writing d earlier begins))) since (managed_at_writing d earlier begins)
      → EachPingArrives (managed_at_writing d earlier begins).acting.manager.planning.rule
      (cells_of (managed_at_writing d earlier begins).acting.manager.store)
      (plan_at (managing_of (managed_at_writing d earlier begins)))
      (managed_at_end d earlier begins since).scene.fabric d.seat

-- if all goes well for so long, the subnet is served (`ServesAt`)
abbrev pub HealsAtSeat : Type 0
HealsAtSeat =
    (n : ℕ) (d : Deciding) (before events : List DecidingEvent) (r : IsUndisturbedAt n d before events) (late : ℕ)
    → ArePrompt late (lines_of events (after_deciding_events before d)) (after_deciding_events before d).acting
    → (after_deciding_events before d).acting.time + 2 * longest_wait r.undisturbed.decided.timing
    + (6 * (n + 3)) * longest_turn late (after_deciding_events before d).acting.window.limits
    < (after_deciding_events events (after_deciding_events before d)).acting.time
    → ServesAt d before events
