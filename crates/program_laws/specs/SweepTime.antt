-- How long a sweep of a manager that decides by itself takes at its seat on a fabric. InfiniBand Architecture
-- Specification, Volume 1: subnet management, topology discovery.
use Rattle.std.specs.Prelude.{◌≡◌, ◌≤◌, ◌<◌, ◌+◌, ◌*◌, ◌^◌, ℕ, true, false, List, [], ◌∷◌, ◌++◌, slice_get}
use Rattle.std.specs.Prelude.{if◌then◌else◌, Option, Some, None}
use Rattle.std.specs.List.{AllByRecursion}
use Rattle.fabric_model.specs.Cables.{is_same_port}
use Rattle.fabric_model.specs.Fabric.{Fabric}
use Rattle.fabric_sim.specs.Simulation.{fabric_of}
use Rattle.plan_steps.specs.Planning.{Planning}
use Rattle.sm_state.specs.declared.conduct.Conduct.{Conduct}
use Rattle.sm_manager.specs.Manager.{new_manager}
use Rattle.sm_policy.specs.Policy.{is_sweeping}
use Rattle.sm_policy.specs.declared.timing.Timing.{Timing}
use Rattle.request_window.specs.declared.limits.Limits.{Limits}
use Rattle.acting_manager.specs.Acting.{Acting}
use Rattle.acting_manager.specs.Working.{Told}
use Rattle.manager_laws.specs.Managing.{Managing, Starts}
use Rattle.manager_laws.specs.Scene.{Handed}
use Rattle.manager_laws.specs.SweepEnds.{most_requests}
use Rattle.program_laws.specs.Deciding.{Around, CanDecide, Deciding, DecidingEvent, Hear, Send, Tell}
use Rattle.program_laws.specs.Deciding.{after_deciding_event, after_deciding_events, deciding_at}
use Rattle.program_laws.specs.ManagedEnds.{StaysAbout}
use Rattle.program_laws.specs.Wakes.{ArePrompt, Line, NoneLeaves, chances_in, controls_in, longest_turn, sets_to_come}
use Rattle.program_laws.specs.Wakes.{wakes_met}

-- what a manager at its seat is told ---------------------------------------------------------------------

-- the line of the packet, with its source LID; none if there is no packet, or if it was not handed up at the seat
abbrev pub line_heard : ℕ → Deciding → Option Handed → List Line
line_heard time d None = []
line_heard time d (Some h) =
    if is_same_port h.at d.seat then (time, Told.Packet h.packet.bytes (Some h.packet.slid)) ∷ [] else []

-- the line that an event tells the manager, if it tells one
abbrev pub line_by : Deciding → DecidingEvent → List Line
line_by d (Around event) = []
line_by d (Tell time what) = (time, what) ∷ []
line_by d (Hear time which) = line_heard time d (slice_get d.scene.handed which)
line_by d (Send which) = []

-- the lines that the events tell the manager, in turn
abbrev pub lines_of : List DecidingEvent → Deciding → List Line
lines_of [] d = []
lines_of (event ∷ events) d = line_by d event ++ lines_of events (after_deciding_event d event)

-- a sweep at a seat ----------------------------------------------------------------------------------------

-- a new manager that decides by itself sits at its seat in `w`, and nothing is on its way. After the events `before`,
-- which lead to `d`, it sweeps, and so it does through the events `during`. It may send each request
-- once at least, one may be out, and nobody tells it to leave
pub record IsSweepAt (w : Managing) (before during : List DecidingEvent) (d : Deciding) : Type 0 where
  pub port_guid : ℕ
  pub port : ℕ
  pub priority : ℕ
  pub conduct : Conduct
  pub planning : Planning
  pub timing : Timing
  pub limits : Limits
  pub newest : ℕ
  pub starts : Starts w
  pub new : w.manager ≡ new_manager port_guid port priority conduct planning
  pub generations : newest < 2 ^ 32
  pub leads : after_deciding_events before (deciding_at w timing limits newest) ≡ d
  pub before_can : AllByRecursion (CanDecide w.seat) before
  pub during_can : AllByRecursion (CanDecide w.seat) during
  pub tries : 1 ≤ d.acting.window.limits.tries
  pub outstanding : 1 ≤ d.acting.window.limits.outstanding
  pub stays_on : d.acting.is_leaving ≡ false
  pub none_leaves : NoneLeaves (lines_of during d)
  pub sweeps : is_sweeping d.acting.policy.activity ≡ true
  pub goes_on : StaysAbout is_sweeping (lines_of during d) d.acting

-- how often the requests of a sweep of the fabric can be late, and one more for each of so many controls: those of the
-- window, Sets that are still to be sent, all that a sweep asks, and an acknowledgement for each control
abbrev pub most_turns : Fabric → ℕ → Acting → ℕ
most_turns f controls a =
    chances_in a.window + a.window.limits.tries * (sets_to_come a.manager + (1 + most_requests f) + controls) + controls

-- what is so while a sweep runs
pub record SweepsOn (w : Managing) (during : List DecidingEvent) (d : Deciding) : Type 0 where
  -- at most so many wakes have been met
  pub few : wakes_met (lines_of during d) d.acting
      ≤ most_turns (fabric_of w.scene.fabric) (controls_in (lines_of during d)) d.acting
  -- if no line comes late, no longer has passed than so many turns and one more
  pub soon : (late : ℕ) → ArePrompt late (lines_of during d) d.acting
      → (after_deciding_events during d).acting.time
      ≤ d.acting.time
      + (most_turns (fabric_of w.scene.fabric) (controls_in (lines_of during d)) d.acting + 1)
      * longest_turn late d.acting.window.limits

-- whatever happens, a sweep at a seat goes on only so long (`SweepsOn`)
abbrev pub SweepsEndInTime : Type 0
SweepsEndInTime =
    (w : Managing) (before during : List DecidingEvent) (d : Deciding) → IsSweepAt w before during d → SweepsOn w during d

-- an example: a manager that sweeps at its seat
pub record SomeSweepIsAtASeat : Type 0 where
  pub managing : Managing
  pub before : List DecidingEvent
  pub during : List DecidingEvent
  pub deciding : Deciding
  pub sweep : IsSweepAt managing before during deciding
