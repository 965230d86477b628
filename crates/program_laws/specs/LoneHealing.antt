-- A manager that decides by itself, and is alone, has its plan written before long, and at its seat serves its subnet, whatever
-- it is about at first. InfiniBand Architecture Specification, Volume 1: subnet management, subnet manager (sweeping), initialization.
use Rattle.std.specs.Prelude.{◌≡◌, ◌≤◌, ◌<◌, ◌+◌, ◌*◌, ◌^◌, ℕ, true, List, None}
use Rattle.std.specs.List.{AllByRecursion}
use Rattle.fact_store.specs.View.{cells_of}
use Rattle.plan_steps.specs.Bound.{most_steps}
use Rattle.sm_manager.specs.Manager.{Manager}
use Rattle.sm_manager.specs.PlanFaults.{plan_fault}
use Rattle.sm_policy.specs.Policy.{is_sweeping}
use Rattle.sm_policy.specs.PolicyLaws.{longest_wait}
use Rattle.acting_manager.specs.Acting.{Acting}
use Rattle.acting_manager.specs.Working.{is_idle, is_writing, pause}
use Rattle.manager_laws.specs.Managing.{Starts}
use Rattle.program_laws.specs.Alone.{IsLone}
use Rattle.program_laws.specs.Deciding.{CanDecide, Deciding, DecidingEvent, after_deciding_events}
use Rattle.program_laws.specs.Healing.{EndsWritten, Heals}
use Rattle.program_laws.specs.HealingAtSeat.{ServesAt}
use Rattle.program_laws.specs.ManagedWritings.{IsNew, managing_of}
use Rattle.program_laws.specs.SweepTime.{lines_of}
use Rattle.program_laws.specs.Wakes.{ArePrompt, AtEachLine, Line, after_lines, before_deciding, longest_turn, sets_to_come}
use Rattle.program_laws.specs.WholeSweeps.{LosesNone, SweepsAreWhole}

-- the manager, whose sweep is over, has room for what it writes: each end port finds a LID, and numbers are left for its
-- requests
pub record HasRoom (m : Manager) : Type 0 where
  pub lids : plan_fault m.planning.lmc (cells_of m.store) ≡ None
  pub numbers : m.counter + sets_to_come m + most_steps (cells_of m.store) ≤ 2 ^ 32

-- if the manager's sweep is over, it has room for what it writes
abbrev pub HasRoomWhenSwept : Line → Acting → Type 0
HasRoomWhenSwept line a =
    is_idle (before_deciding line a).window ≡ true → is_sweeping (before_deciding line a).policy.activity ≡ true
    → HasRoom (before_deciding line a).manager

-- a manager that is alone for so long, whose sweeps are whole, and which has room for what it writes, has swept and has its
-- plan written (`Heals`). It is told the time at most two seconds late
abbrev pub LoneManagersHeal : Type 0
LoneManagersHeal =
    (n : ℕ) (a : Acting) (lines : List Line) (r : IsLone n a lines) → SweepsAreWhole lines a → AtEachLine HasRoomWhenSwept lines a → AtEachLine EndsWritten lines a
    → (late : ℕ) → late ≤ pause → ArePrompt late lines a
    → a.time + 19 * longest_wait r.decided.timing + (26 * (n + 4)) * longest_turn late a.window.limits < (after_lines lines a).time
    → Heals lines a

-- an example: a manager that is alone for so long, with no line late
pub record SomeLoneManagerHeals : Type 0 where
  pub bound : ℕ
  pub acting : Acting
  pub lines : List Line
  pub lone : IsLone bound acting lines
  pub whole : SweepsAreWhole lines acting
  pub free : AtEachLine HasRoomWhenSwept lines acting
  pub written : AtEachLine EndsWritten lines acting
  pub prompt : ArePrompt 0 lines acting
  pub long : acting.time + 19 * longest_wait lone.decided.timing + (26 * (bound + 4)) * longest_turn 0 acting.window.limits
      < (after_lines lines acting).time

-- at its seat ---------------------------------------------------------------------------------------------

-- if the manager writes, it gives up no request by the line
abbrev pub KeepsSets : Line → Acting → Type 0
KeepsSets line a = is_writing a.policy.activity ≡ true → LosesNone line a

-- a new manager that decides by itself sits at its seat, and nothing is on its way. After the events `before` it is alone,
-- its sweeps are whole, it has room for what it writes, and no Set of it is given up, through the events `events`
pub record IsLoneAt (n : ℕ) (d : Deciding) (before events : List DecidingEvent) : Type 0 where
  pub new : IsNew d
  pub starts : Starts (managing_of d)
  pub before_can : AllByRecursion (CanDecide d.seat) before
  pub events_can : AllByRecursion (CanDecide d.seat) events
  pub lone : IsLone n (after_deciding_events before d).acting (lines_of events (after_deciding_events before d))
  pub whole : SweepsAreWhole (lines_of events (after_deciding_events before d)) (after_deciding_events before d).acting
  pub free : AtEachLine HasRoomWhenSwept (lines_of events (after_deciding_events before d)) (after_deciding_events before d).acting
  pub none_lost : AtEachLine KeepsSets (lines_of events (after_deciding_events before d)) (after_deciding_events before d).acting

-- if it is so for so long, the subnet is served (`ServesAt`)
abbrev pub LoneManagersHealAtSeat : Type 0
LoneManagersHealAtSeat =
    (n : ℕ) (d : Deciding) (before events : List DecidingEvent) (r : IsLoneAt n d before events) (late : ℕ) → late ≤ pause
    → ArePrompt late (lines_of events (after_deciding_events before d)) (after_deciding_events before d).acting
    → (after_deciding_events before d).acting.time + 19 * longest_wait r.lone.decided.timing
    + (26 * (n + 4)) * longest_turn late (after_deciding_events before d).acting.window.limits
    < (after_deciding_events events (after_deciding_events before d)).acting.time
    → ServesAt d before events
