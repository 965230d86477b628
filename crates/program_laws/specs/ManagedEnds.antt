-- A sweep and a writing of a manager that decides by itself end. InfiniBand Architecture Specification, Volume 1: subnet
-- management, topology discovery, initialization.
use Rattle.std.specs.Prelude.{◌≡◌, ◌≤◌, ◌<◌, ◌+◌, ◌^◌, ℕ, Bool, true, false, List}
use Rattle.std.specs.List.{AllByRecursion}
use Rattle.fabric_sim.specs.Simulation.{fabric_of}
use Rattle.plan_steps.specs.Planning.{Planning}
use Rattle.sm_state.specs.declared.conduct.Conduct.{Conduct}
use Rattle.sm_manager.specs.Manager.{is_running, new_manager}
use Rattle.sm_policy.specs.Policy.{is_sweeping}
use Rattle.sm_policy.specs.declared.activity.Activity.{Activity}
use Rattle.acting_manager.specs.Acting.{Acting}
use Rattle.acting_manager.specs.Working.{is_idle, is_writing}
use Rattle.manager_laws.specs.Managing.{Managing, Starts}
use Rattle.manager_laws.specs.SweepEnds.{most_requests}
use Rattle.manager_laws.specs.WritingEnds.{IsOver}
use Rattle.program_laws.specs.Deciding.{CanDecide, Deciding, DecidingEvent, StandsFor, after_deciding_events}
use Rattle.program_laws.specs.Wakes.{AtEachLine, GetsOn, HasDecided, IsNoLeave, Line, NoneLeaves, after_line, before_deciding, next_in}
use Rattle.program_laws.specs.Wakes.{sets_to_come}

-- after each of the lines, what the manager is about passes the test
abbrev pub StaysAbout : (Activity → Bool) → List Line → Acting → Type 0
StaysAbout test = AtEachLine (λ line a. test (after_line line a).policy.activity ≡ true)

-- let a manager that decides by itself sweep. As long as it sweeps, whatever it is told, it gets on with its requests
-- (`GetsOn`): after so many wakes the sweep is over. It may send each request once at least, one may be out, and nobody
-- tells it to leave
abbrev pub ManagedSweepsEnd : Type 0
ManagedSweepsEnd =
    (a : Acting) (lines : List Line) → HasDecided a
    → 1 ≤ a.window.limits.tries → 1 ≤ a.window.limits.outstanding
    → a.is_leaving ≡ false → NoneLeaves lines
    → is_sweeping a.policy.activity ≡ true → StaysAbout is_sweeping lines a
    → GetsOn lines a

-- let it write, and have requests, as it has unless there is nothing to write. As long as it writes, it gets on with its
-- requests: after so many wakes the writing is over
abbrev pub ManagedWritingsEnd : Type 0
ManagedWritingsEnd =
    (a : Acting) (lines : List Line) → HasDecided a
    → 1 ≤ a.window.limits.tries → 1 ≤ a.window.limits.outstanding
    → a.is_leaving ≡ false → NoneLeaves lines
    → is_idle a.window ≡ false → is_writing a.policy.activity ≡ true → StaysAbout is_writing lines a
    → GetsOn lines a

-- let a manager that decides by itself be told something, and have no request left before it decides. Then no sweep of it
-- runs: each request that its sweep made was answered or given up. Its newest generation fits in 32 bits at first, and
-- nobody has told it to leave
abbrev pub SweepsLoseNothing : Type 0
SweepsLoseNothing =
    (a : Acting) (line : Line) (h : HasDecided a) → h.newest < 2 ^ 32 → NoneLeaves h.lines → IsNoLeave line.1
    → is_idle (before_deciding line a).window ≡ true → is_running (before_deciding line a).manager.sweep ≡ false

-- let it be so, and let numbers be left for all Sets that are still to be sent. Then no writing runs either: no step
-- waits, and none is still to be sent
abbrev pub WritingsLoseNothing : Type 0
WritingsLoseNothing =
    (a : Acting) (line : Line) (h : HasDecided a) → h.newest < 2 ^ 32 → NoneLeaves h.lines → IsNoLeave line.1
    → is_idle (before_deciding line a).window ≡ true
    → (before_deciding line a).manager.counter + sets_to_come (before_deciding line a).manager ≤ 2 ^ 32
    → IsOver (before_deciding line a).manager

-- let a new manager that decides by itself sit at its seat, and nothing be on its way. Whatever happens then, its sweep
-- has made at most `most_requests` requests: the number of its next request, which begins with 1, is at most one more
abbrev pub ManagedSweepsAskFew : Type 0
ManagedSweepsAskFew =
    (port_guid port priority : ℕ) (conduct : Conduct) (planning : Planning) (w : Managing) (d : Deciding)
    (events : List DecidingEvent)
    → Starts w → w.manager ≡ new_manager port_guid port priority conduct planning → StandsFor w d
    → AllByRecursion (CanDecide d.seat) events
    → next_in (after_deciding_events events d).acting.manager.sweep ≤ 1 + most_requests (fabric_of d.scene.fabric)
