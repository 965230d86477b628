-- While the plan of a manager that decides by itself stands, pings arrive. InfiniBand Architecture Specification, Volume 1:
-- subnet management, initialization.
use Rattle.std.specs.Prelude.{◌≡◌, true, false, List}
use Rattle.std.specs.List.{AllByRecursion}
use Rattle.fact_store.specs.View.{cells_of}
use Rattle.acting_manager.specs.Working.{is_writing}
use Rattle.manager_laws.specs.Managing.{Starts}
use Rattle.manager_laws.specs.Pings.{EachPingArrives}
use Rattle.manager_laws.specs.Written.{own_sets, plan_at}
use Rattle.program_laws.specs.Deciding.{CanDecide, Deciding, DecidingEvent, after_deciding_events}
use Rattle.program_laws.specs.ManagedPings.{AllKeepManaged, managed_at_end, managed_at_writing}
use Rattle.program_laws.specs.ManagedWritings.{IsNew, begins_writing, managing_of}

-- a new manager that decides by itself, and is strict, begins its last writing by the event `begins`, and its plan stands in
-- the end
pub record StandsManaged (d : Deciding) (before : List DecidingEvent) (begins : DecidingEvent) (after : List DecidingEvent)
    : Type 0 where
  pub new : IsNew d
  -- no packet is on its way, GUIDs differ, and the manager sits at its seat
  pub starts : Starts (managing_of d)
  pub before_can : AllByRecursion (CanDecide d.seat) before
  pub begins_can : CanDecide d.seat begins
  pub after_can : AllByRecursion (CanDecide d.seat) after
  pub writes : begins_writing (after_deciding_events before d) begins ≡ true
  pub strict : (managed_at_writing d before begins).acting.policy.timing.is_strict ≡ true
  -- from then on it begins no other writing, and each Set that an agent takes is one of the writing's own or carries
  -- the plan's values
  pub keep : AllKeepManaged (plan_at (managing_of (managed_at_writing d before begins)))
      (own_sets (managing_of d) (managing_of (managed_at_writing d before begins)))
      after (managed_at_writing d before begins)
  -- the plan stands, is not being written, and nobody told the manager to leave
  pub stands : (managed_at_end d before begins after).acting.policy.written.stands ≡ true
  pub quiet : is_writing (managed_at_end d before begins after).acting.policy.activity ≡ false
  pub stays_on : (managed_at_end d before begins after).acting.is_leaving ≡ false

-- if the plan of a manager that decides by itself stands (`StandsManaged`), each ping from an end port that the seat is
-- joined to, for each LID of the plan, reaches the LID's owner
abbrev pub StandingPingsArrive : Type 0
StandingPingsArrive =
    (d : Deciding) (before : List DecidingEvent) (begins : DecidingEvent) (after : List DecidingEvent)
    → StandsManaged d before begins after
    → EachPingArrives (managed_at_writing d before begins).acting.manager.planning.rule
    (cells_of (managed_at_writing d before begins).acting.manager.store)
    (plan_at (managing_of (managed_at_writing d before begins)))
    (managed_at_end d before begins after).scene.fabric d.seat
