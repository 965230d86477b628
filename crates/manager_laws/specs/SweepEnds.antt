-- How many requests a sweep makes, and that it ends. InfiniBand Architecture Specification, Volume 1: subnet management,
-- topology discovery.
use Rattle.std.specs.Prelude.{◌≡◌, ◌≤◌, ℕ, ◌+◌, ◌*◌, Bool, false, List, [], ◌∷◌, All, Option, None, Some, Result, Ok, Err}
use Rattle.std.specs.Prelude.{if◌then◌else◌, is_some, length, slice_get, sum_by}
use Rattle.fabric_model.specs.Cables.{is_same_port}
use Rattle.fabric_model.specs.Fabric.{Fabric}
use Rattle.fabric_sim.specs.Simulation.{fabric_of}
use Rattle.sweep.specs.declared.answer.Answer.{Answer}
use Rattle.sweep.specs.declared.fault.SweepFault.{SweepFault}
use Rattle.sweep.specs.Replies.{judged}
use Rattle.sweep.specs.Sweep.{is_done, is_none_left, request_with}
use Rattle.manager_laws.specs.Scene.{Handed}
use Rattle.manager_laws.specs.Sweeping.{Ask, Around, Begins, CanBe, Hear, Send, SweepEvent, Sweeping, TimeOut}
use Rattle.manager_laws.specs.Sweeping.{after_sweep_event, after_sweep_events}

-- the number of requests that a sweep of the fabric makes at most: 1 + 4n + 3p, for n nodes with p ports
abbrev pub most_requests : Fabric → ℕ
most_requests f = 1 + sum_by (λ node. 3 * node.ports + 4) f.nodes

-- the number of requests that the sweep of `w` has made: those that it gave out, and those that are queued
abbrev pub requests_made : Sweeping → ℕ
requests_made w = length w.asked + length w.sweep.queued

-- whatever happens, and whatever others do meanwhile, a sweep makes at most `most_requests` requests
abbrev pub SweepsAskFew : Type 0
SweepsAskFew =
    (w : Sweeping) (generation first : ℕ) (events : List SweepEvent) → Begins w generation first → All CanBe events
    → requests_made (after_sweep_events events w) ≤ most_requests (fabric_of w.scene.fabric)

-- 1 if the reply was accepted, otherwise 0
abbrev pub accepts : Result Answer SweepFault → ℕ
accepts (Ok answer) = 1
accepts (Err fault) = 0

-- 1 if the sweep of `w` accepts the packet, which was handed up at its seat; otherwise 0
abbrev pub hears : Sweeping → Option Handed → ℕ
hears w None = 0
hears w (Some h) = if is_same_port h.at w.seat then accepts (judged w.sweep h.packet.bytes) else 0

-- 1 if the event is a step of the sweep of `w`: the sweep gives out a request, accepts a reply, or gives a request up
-- that is outstanding; otherwise 0
abbrev pub step_by : Sweeping → SweepEvent → ℕ
step_by w (Around event) = 0
step_by w Ask = if is_none_left w.sweep.queued then 0 else 1
step_by w (Send which) = 0
step_by w (Hear which) = hears w (slice_get w.scene.handed which)
step_by w (TimeOut transaction) =
    if is_some (request_with w.sweep.generation transaction w.sweep.outstanding) then 1 else 0

-- how many of the events are steps of the sweep, from `w` on
abbrev pub steps_in : List SweepEvent → Sweeping → ℕ
steps_in [] w = 0
steps_in (event ∷ events) w = step_by w event + steps_in events (after_sweep_event w event)

-- the sweep of `w` can take a step: by giving out a request, or by giving one up
abbrev pub CanStep : Sweeping → Type 0
CanStep w = (event : SweepEvent) × CanBe event × (step_by w event ≡ 1)

-- the sweep takes at most two steps for each request of `most_requests`, and as long as it is not done, it can take one
pub record Ends (w : Sweeping) (events : List SweepEvent) : Type 0 where
  pub few : steps_in events w ≤ 2 * most_requests (fabric_of w.scene.fabric)
  pub goes_on : is_done (after_sweep_events events w).sweep ≡ false → CanStep (after_sweep_events events w)

-- whatever happens, a sweep ends (`Ends`): if its requests are given out, and those that are not answered are given up,
-- it is done after so many steps
abbrev pub SweepsEnd : Type 0
SweepsEnd =
    (w : Sweeping) (generation first : ℕ) (events : List SweepEvent) → Begins w generation first → All CanBe events
    → Ends w events
