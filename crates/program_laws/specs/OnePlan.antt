-- A manager that decides by itself, all of whose writings are of one plan, where nobody else sets what the plan has.
-- InfiniBand Architecture Specification, Volume 1: subnet management, initialization.
use Rattle.std.specs.Prelude.{◌≡◌, true, List, [], ◌∷◌, ◌++◌}
use Rattle.std.specs.List.{AllByRecursion}
use Rattle.fact_store.specs.View.{cells_of}
use Rattle.lft_blocks.specs.Plan.{PlanValue}
use Rattle.manager_laws.specs.Managing.{Starts}
use Rattle.manager_laws.specs.Masters.{SetsInfoOnly}
use Rattle.manager_laws.specs.Pings.{EachPingArrives}
use Rattle.manager_laws.specs.Written.{own_sets, plan_at}
use Rattle.program_laws.specs.Deciding.{Around, CanDecide, Deciding, DecidingEvent, after_deciding_event, after_deciding_events}
use Rattle.program_laws.specs.HealingAtSeat.{OthersKeep, ServesAt}
use Rattle.program_laws.specs.ManagedPings.{AllKeepManaged, managed_at_end, managed_at_writing}
use Rattle.program_laws.specs.ManagedWritings.{IsNew, NoneBegins, begins_writing, managing_of}

-- other senders set only SMInfo by the event
abbrev pub OthersSetInfoOnly : DecidingEvent → Type 0
OthersSetInfoOnly (Around event) = SetsInfoOnly event
OthersSetInfoOnly event = Unit {0}

-- each writing that begins by the events, if any, is of the plan
abbrev pub AllWrite : PlanValue → List DecidingEvent → Deciding → Type 0
AllWrite plan [] d = Unit {0}
AllWrite plan (event ∷ events) d =
    (begins_writing d event ≡ true → plan_at (managing_of (after_deciding_event d event)) ≡ plan)
    × AllWrite plan events (after_deciding_event d event)

-- a new manager that decides by itself writes nothing but the plan in the events, and nobody else sets what it may set
pub record IsOfOnePlan (plan : PlanValue) (d : Deciding) (events : List DecidingEvent) : Type 0 where
  pub new : IsNew d
  -- no packet is on its way, GUIDs differ, and the manager sits at its seat
  pub starts : Starts (managing_of d)
  pub can : AllByRecursion (CanDecide d.seat) events
  pub one : AllWrite plan events d
  pub others : AllByRecursion OthersSetInfoOnly events

-- then from any writing on each Set that an agent takes is one of its own or carries the plan's values (`OthersKeep`)
abbrev pub OnePlanIsKept : Type 0
OnePlanIsKept =
    (plan : PlanValue) (d : Deciding) (before : List DecidingEvent) (begins : DecidingEvent) (after : List DecidingEvent)
    → IsOfOnePlan plan d (before ++ begins ∷ after) → begins_writing (after_deciding_events before d) begins ≡ true
    → OthersKeep (plan_at (managing_of (managed_at_writing d before begins)))
    (own_sets (managing_of d) (managing_of (managed_at_writing d before begins)))
    after (managed_at_writing d before begins)

-- and if that writing is the last, all is kept as the laws of pings and of paths ask (`AllKeepManaged`)
abbrev pub LastPlanIsKept : Type 0
LastPlanIsKept =
    (plan : PlanValue) (d : Deciding) (before : List DecidingEvent) (begins : DecidingEvent) (after : List DecidingEvent)
    → IsOfOnePlan plan d (before ++ begins ∷ after) → begins_writing (after_deciding_events before d) begins ≡ true
    → NoneBegins after (managed_at_writing d before begins)
    → AllKeepManaged (plan_at (managing_of (managed_at_writing d before begins)))
    (own_sets (managing_of d) (managing_of (managed_at_writing d before begins)))
    after (managed_at_writing d before begins)

-- so at the moment of `ServesAt`, which the law of healing tells of, pings arrive if the manager was strict when the plan's
-- writing began
abbrev pub OnePlanServes : Type 0
OnePlanServes =
    (plan : PlanValue) (d : Deciding) (before events : List DecidingEvent)
    → IsOfOnePlan plan d (before ++ events) → (s : ServesAt d before events)
    → (managed_at_writing d s.earlier s.begins).acting.policy.timing.is_strict ≡ true
    → EachPingArrives (managed_at_writing d s.earlier s.begins).acting.manager.planning.rule
    (cells_of (managed_at_writing d s.earlier s.begins).acting.manager.store)
    (plan_at (managing_of (managed_at_writing d s.earlier s.begins)))
    (managed_at_end d s.earlier s.begins s.since).scene.fabric d.seat

-- an example: a manager that writes one plan, and its last writing
pub record SomeManagerWritesOnePlan : Type 0 where
  pub plan : PlanValue
  pub deciding : Deciding
  pub before : List DecidingEvent
  pub begins : DecidingEvent
  pub after : List DecidingEvent
  pub is_so : IsOfOnePlan plan deciding (before ++ begins ∷ after)
  pub writes : begins_writing (after_deciding_events before deciding) begins ≡ true
  pub is_last : NoneBegins after (managed_at_writing deciding before begins)
