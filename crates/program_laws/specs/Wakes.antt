-- How often a manager that decides by itself asks to be told the time before all its requests are over: each was
-- answered then, or given up. InfiniBand Architecture Specification, Volume 1: management datagrams; subnet management,
-- SMP time-outs.
use Rattle.std.specs.Prelude.{◌≡◌, ◌≤◌, ℕ, ◌+◌, ◌-◌, ◌*◌, max, Bool, true, false, ◌&&◌, List, [], ◌∷◌, length, ◌==◌}
use Rattle.std.specs.Prelude.{Option, Some, None}
use Rattle.smp_bytes.specs.Field.{number_in}
use Rattle.smp_bytes.specs.Header.{set, sm_info}
use Rattle.smp_bytes.specs.Packet.{attribute_id, method}
use Rattle.plan_steps.specs.Planning.{Planning}
use Rattle.sm_state.specs.declared.conduct.Conduct.{Conduct}
use Rattle.sweep.specs.Sweep.{Sweep}
use Rattle.sm_manager.specs.Manager.{Manager, is_running, new_manager}
use Rattle.sm_policy.specs.Resting.{is_due}
use Rattle.sm_policy.specs.declared.timing.Timing.{Timing}
use Rattle.request_window.specs.Window.{Window}
use Rattle.request_window.specs.declared.limits.Limits.{Limits}
use Rattle.request_window.specs.declared.out.Out.{Out}
use Rattle.acting_manager.specs.Acting.{Acting, caught_up, new_acting}
use Rattle.acting_manager.specs.Working.{Told, after_told, all_overdue, given_away, is_idle, stopped, taken, told_time}
use Rattle.acting_manager.specs.Working.{wake_of}
use Rattle.manager_laws.specs.WritingEnds.{steps_to_come}

-- what a manager is told ------------------------------------------------------------------------------

-- something that a manager is told, with its time
abbrev pub Line : Type 0
Line = ℕ × Told

-- a manager after it was told something, once its packets and notes were given out
abbrev pub after_line : Line → Acting → Acting
after_line line a = given_away (after_told line.0 line.1 a)

-- a manager after several lines, one after the other
abbrev pub after_lines : List Line → Acting → Acting
after_lines [] a = a
after_lines (line ∷ lines) a = after_lines lines (after_line line a)

-- `is_so` is so of each line and the manager that is told it
abbrev pub AtEachLine : (Line → Acting → Type 0) → List Line → Acting → Type 0
AtEachLine is_so [] a = Unit {0}
AtEachLine is_so (line ∷ lines) a = is_so line a × AtEachLine is_so lines (after_line line a)

-- `a` is what a new manager that decides by itself is after some lines
pub record HasDecided (a : Acting) : Type 0 where
  pub port_guid : ℕ
  pub port : ℕ
  pub priority : ℕ
  pub conduct : Conduct
  pub planning : Planning
  pub timing : Timing
  pub limits : Limits
  pub newest : ℕ
  pub lines : List Line
  pub are : after_lines lines
      (new_acting (new_manager port_guid port priority conduct planning) timing limits newest) ≡ a

-- the line does not tell the manager to leave
abbrev pub IsNoLeave : Told → Type 0
IsNoLeave Told.Leave = ⊥
IsNoLeave what = Unit {0}

-- none of the lines tells the manager to leave
abbrev pub NoneLeaves : List Line → Type 0
NoneLeaves [] = Unit {0}
NoneLeaves (line ∷ lines) = IsNoLeave line.1 × NoneLeaves lines

-- wakes -----------------------------------------------------------------------------------------------

-- whether a manager that is told `time` has asked for that: the time has come at which it is to be told the time
abbrev pub is_woken : ℕ → Acting → Bool
is_woken time a = is_due (max time a.time) (wake_of a)

-- 1 if the flag is set, else 0
abbrev pub one_if : Bool → ℕ
one_if true = 1
one_if false = 0

-- how many of the lines come at the time for which the manager asked before, or later
abbrev pub wakes_met : List Line → Acting → ℕ
wakes_met [] a = 0
wakes_met (line ∷ lines) a = one_if (is_woken line.0 a) + wakes_met lines (after_line line a)

-- the manager asks for a time, which is not past
pub record AsksForATime (a : Acting) : Type 0 where
  pub wake : ℕ
  pub is : wake_of a ≡ Some wake
  pub not_past : a.time ≤ wake

-- what a line begins with ------------------------------------------------------------------------------

-- a manager that was told something, before it decides: late requests were sent again or given up
abbrev pub before_deciding : Line → Acting → Acting
before_deciding line a = caught_up (all_overdue (stopped (caught_up (taken line.1 (told_time line.0 a)))))

-- after each line some request waits for its turn or is out, so that the manager decides nothing
abbrev pub StaysBusy : List Line → Acting → Type 0
StaysBusy = AtEachLine (λ line a. is_idle (before_deciding line a).window ≡ false)

-- what has to end -----------------------------------------------------------------------------------------

-- how often a request that is out can be late: once for each time that it may still be sent, and once for now
abbrev pub chances : Limits → Out → ℕ
chances limits out = (limits.tries - out.tries) + 1

-- how often the requests that are out can be late
abbrev pub chances_out : Limits → List Out → ℕ
chances_out limits [] = 0
chances_out limits (out ∷ outs) = chances limits out + chances_out limits outs

-- how often the requests of a window can be late: one that waits for its turn, as often as it may be sent
abbrev pub chances_in : Window → ℕ
chances_in w = w.limits.tries * length w.queued + chances_out w.limits w.outs

-- the number of the next request of the sweep; 0 if there is no sweep
abbrev pub next_in : Option Sweep → ℕ
next_in None = 0
next_in (Some s) = s.next

-- how many requests the sweep of `m` makes until the manager is `later`, if none begins meanwhile
abbrev pub asked_between : Manager → Manager → ℕ
asked_between m later = next_in later.sweep - next_in m.sweep

-- how many Sets of its writing the manager has still to send
abbrev pub sets_to_come : Manager → ℕ
sets_to_come m = length (steps_to_come m.writing)

-- whether a packet is a control of another manager: a Set of SMInfo
abbrev pub is_control : List ℕ → Bool
is_control packet = number_in method packet == set && number_in attribute_id packet == sm_info

-- 1 if what is told is a control, else 0
abbrev pub control_in : Told → ℕ
control_in (Told.Packet bytes from) = one_if (is_control bytes)
control_in what = 0

-- how many of the lines bring a control
abbrev pub controls_in : List Line → ℕ
controls_in [] = 0
controls_in (line ∷ lines) = control_in line.1 + controls_in lines

-- how many requests there are to send, from `m` to `later`: the Sets that are still to be sent, what the sweep asks,
-- and an acknowledgement for each control
abbrev pub requests_until : List Line → Manager → Manager → ℕ
requests_until lines m later = sets_to_come m + asked_between m later + controls_in lines

-- how often the requests of `a`, and those that come in the course of the lines, can be late, and one more for each
-- control
abbrev pub turns_until : List Line → Acting → ℕ
turns_until lines a =
    chances_in a.window + a.window.limits.tries * requests_until lines a.manager (after_lines lines a).manager
    + controls_in lines

-- time ------------------------------------------------------------------------------------------------------

-- `time` is at most `late` milliseconds after the given time, if one is given
abbrev pub IsBy : ℕ → ℕ → Option ℕ → Type 0
IsBy late time None = Unit {0}
IsBy late time (Some wake) = time ≤ wake + late

-- no line comes more than `late` milliseconds after the time for which the manager asked
abbrev pub ArePrompt : ℕ → List Line → Acting → Type 0
ArePrompt late = AtEachLine (λ line a. IsBy late line.0 (wake_of a))

-- the longest time in milliseconds until something of what is left ends: until a request is late, and the manager is
-- told so
abbrev pub longest_turn : ℕ → Limits → ℕ
longest_turn late limits = 3 * limits.timeout + late

-- that all ends ---------------------------------------------------------------------------------------------

-- what is so after these lines
pub record GetsOn (lines : List Line) (a : Acting) : Type 0 where
  -- at most so many wakes have been met as requests can be late
  pub few : wakes_met lines a ≤ turns_until lines a
  -- if no line comes late, the lines take no longer than so many turns and one more
  pub soon : (late : ℕ) → ArePrompt late lines a
      → (after_lines lines a).time ≤ a.time + (turns_until lines a + 1) * longest_turn late a.window.limits
  -- if no sweep runs at first, none asks anything
  pub quiet : is_running a.manager.sweep ≡ false → asked_between a.manager (after_lines lines a).manager ≡ 0
  -- the manager asks to be told the time
  pub asks : AsksForATime (after_lines lines a)

-- let a manager that decides by itself have a request that waits or is out, and let some request be left whatever it is
-- told. Then it gets on with its requests (`GetsOn`). It may send each request once at least, one may be out, and
-- nobody tells it to leave
abbrev pub WindowsEmpty : Type 0
WindowsEmpty =
    (a : Acting) (lines : List Line) → HasDecided a
    → 1 ≤ a.window.limits.tries → 1 ≤ a.window.limits.outstanding
    → a.is_leaving ≡ false → NoneLeaves lines
    → is_idle a.window ≡ false → StaysBusy lines a
    → GetsOn lines a
