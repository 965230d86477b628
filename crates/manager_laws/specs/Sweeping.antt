-- A sweep on a fabric where other managers work too: the requests that it makes, and the replies that it accepts.
use Rattle.std.specs.Prelude.{◌≡◌, ℕ, ◌<◌, ◌≤◌, ◌^◌, Bool, true, List, [], ◌∷◌, ◌++◌, All, slice_get, if◌then◌else◌, Option, Some, None, Result, Ok, Err}
use Rattle.fabric_model.specs.declared.cable.NodePort.{NodePort}
use Rattle.fabric_model.specs.Cables.{is_same_port}
use Rattle.reply_facts.specs.declared.report.Report.{Report}
use Rattle.reply_facts.specs.Report.{sightings_of}
use Rattle.sweep.specs.declared.answer.Answer.{Answer}
use Rattle.sweep.specs.declared.answer.Answer.TheVariants.{Facts, Seen}
use Rattle.sweep.specs.declared.fault.SweepFault.{SweepFault}
use Rattle.sweep.specs.Replies.{judged, after_reply}
use Rattle.sweep.specs.Sweep.{Sweep, Sent, after_next_request, started, after_timeout}
use Rattle.fabric_sim.specs.Simulation.{fabric_of, is_seat_at}
use Rattle.fabric_sim.specs.ThereAndBack.{directed_packet}
use Rattle.manager_laws.specs.Scene.{Handed, Scene, Event, CanHappen, IsQuiet, after_event, sent_from}
use Rattle.manager_laws.specs.Truth.{AreGuidsDistinct, IsTrueSighting}

-- a sweep at work: the scene, the sweep with its seat, the requests that it gave out, and the reports that it accepted
pub record Sweeping : Type 0 where
  pub scene : Scene
  pub seat : NodePort
  pub sweep : Sweep
  pub asked : List (List ℕ)
  pub reports : List Report

-- an event: something happens on the fabric (`Around`); the sweep gives out its next request (`Ask`); a request that it
-- gave out is sent from its seat, perhaps again (`Send`, by index). A packet that was handed up at its seat is given to
-- it, perhaps again (`Hear`, by index), or one of its requests times out (`TimeOut`)
pub data SweepEvent : Type 0 where
  Around : (event : Event) → SweepEvent
  Ask : SweepEvent
  Send : (which : ℕ) → SweepEvent
  Hear : (which : ℕ) → SweepEvent
  TimeOut : (transaction : ℕ) → SweepEvent

-- the event is possible: if it is on the fabric, it can happen (`CanHappen`)
abbrev pub CanBe : SweepEvent → Type 0
CanBe (Around event) = CanHappen event
CanBe Ask = Unit {0}
CanBe (Send which) = Unit {0}
CanBe (Hear which) = Unit {0}
CanBe (TimeOut transaction) = Unit {0}

-- what events do --------------------------------------------------------------------------------

-- `asked` with one more request, if there is one
abbrev pub one_more : List (List ℕ) → Option (List ℕ) → List (List ℕ)
one_more asked None = asked
one_more asked (Some packet) = asked ++ packet ∷ []

-- the `Sweeping` once the sweep has given out its next request, if it had one
abbrev pub asking_more : Sweeping → Sent → Sweeping
asking_more w s = record w { sweep = s.sweep; asked = one_more w.asked s.packet }

-- the `Sweeping` once the request, if there is one, was sent from the sweep's seat
abbrev pub sending : Sweeping → Option (List ℕ) → Sweeping
sending w None = w
sending w (Some packet) = record w { scene = sent_from w.scene w.seat (directed_packet packet) }

-- the report that an answer gives; none if the answer is what a manager says of itself
abbrev pub reports_of : Answer → List Report
reports_of (Facts report) = report ∷ []
reports_of (Seen guid port info) = []

-- `w` once its sweep has taken the reply `packet`; unchanged if the sweep refuses the reply
abbrev pub with_answer : Sweeping → List ℕ → Result Answer SweepFault → Sweeping
with_answer w packet (Ok answer) =
    record w { sweep = after_reply w.sweep packet; reports = w.reports ++ reports_of answer }
with_answer w packet (Err fault) = w

-- `w` once its sweep was given the packet; unchanged if there is no packet, or if the packet was not handed up at the
-- sweep's seat
abbrev pub hearing : Sweeping → Option Handed → Sweeping
hearing w None = w
hearing w (Some h) =
    if is_same_port h.at w.seat then with_answer w h.packet.bytes (judged w.sweep h.packet.bytes) else w

-- the `Sweeping` after an event
abbrev pub after_sweep_event : Sweeping → SweepEvent → Sweeping
after_sweep_event w (Around event) = record w { scene = after_event w.scene event }
after_sweep_event w Ask = asking_more w (after_next_request w.sweep)
after_sweep_event w (Send which) = sending w (slice_get w.asked which)
after_sweep_event w (Hear which) = hearing w (slice_get w.scene.handed which)
after_sweep_event w (TimeOut transaction) = record w { sweep = after_timeout w.sweep transaction }

-- the `Sweeping` after `events`, in turn
abbrev pub after_sweep_events : List SweepEvent → Sweeping → Sweeping
after_sweep_events [] w = w
after_sweep_events (event ∷ events) w = after_sweep_events events (after_sweep_event w event)

-- after each event of a run, the scene is as `is_so` requires
abbrev pub AlwaysSo : (Scene → Type 0) → List SweepEvent → Sweeping → Type 0
AlwaysSo is_so [] w = Unit {0}
AlwaysSo is_so (event ∷ events) w =
    is_so (after_sweep_event w event).scene × AlwaysSo is_so events (after_sweep_event w event)

-- the scene is quiet, and its nodes have different GUIDs. A sweep of the generation `at` has just begun at a seat, with
-- the number of the seat's port and with `from` as its first request number; the sweep may keep images
pub record Begins (w : Sweeping) (at from : ℕ) : Type 0 where
  pub quiet : IsQuiet w.scene
  pub distinct : AreGuidsDistinct (fabric_of w.scene.fabric)
  pub seat : is_seat_at w.scene.fabric w.seat ≡ true
  pub generation : (1 ≤ at) × (at < 2 ^ 32)
  pub first : from < 2 ^ 32
  pub keeps : Bool
  pub sweep : w.sweep ≡ started w.seat.port at from keeps
  pub asked : w.asked ≡ []
  pub reports : w.reports ≡ []

-- whatever happens, each fact of a report that a sweep accepts is true of the fabric, except that a claimed LID may be
-- any LID
abbrev pub AcceptedFactsAreTrue : Type 0
AcceptedFactsAreTrue =
    (w : Sweeping) (generation first : ℕ) (events : List SweepEvent) → Begins w generation first → All CanBe events
    → All (λ report. All (IsTrueSighting (fabric_of w.scene.fabric)) (sightings_of report))
    (after_sweep_events events w).reports
