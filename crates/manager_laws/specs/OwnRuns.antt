-- What one of several managers does on its own: the packets that it gives out, and its own run.
use Rattle.std.specs.Prelude.{◌≡◌, ℕ, true, List, All, slice_get, Some, None}
use Rattle.sm_manager.specs.declared.outgoing.Outgoing.{Outgoing}
use Rattle.sm_manager.specs.PlanFaults.{writing_fault}
use Rattle.manager_laws.specs.Scene.{Sending, CanSend, sent, sent_from}
use Rattle.manager_laws.specs.Managing as one
use Rattle.manager_laws.specs.Managing.{Managing, ManagerEvent, Starts, packet_of, after_manager_events}
use Rattle.manager_laws.specs.Written.{SweepsFirst}
use Rattle.manager_laws.specs.Masters.{Seated, Masters, MastersEvent, AllAlong, Around, At, IsAt, seen_by, after_masters_events}
use Rattle.manager_laws.specs.Masters.{AllCanBe, StartTogether}

-- the packet `o`, which the manager gave out, can be sent from the manager's seat as one of the packets that other
-- managers may send
pub record IsSendable (w : Managing) (o : Outgoing) : Type 0 where
  pub sending : Sending
  pub can_send : CanSend w.seat sending
  pub is : sent w.scene w.seat sending ≡ sent_from w.scene w.seat (packet_of o)

-- if a manager may start a run (`Starts`) and begins no writing before a sweep, each packet that the manager gives
-- out can be sent as a packet of another manager (`IsSendable`)
abbrev pub WhatIsGivenOutCanBeSent : Type 0
WhatIsGivenOutCanBeSent =
    (w : Managing) (events : List ManagerEvent) → Starts w → SweepsFirst events w → All (one.CanBe w.seat) events
    → (which : ℕ) (o : Outgoing) → slice_get (after_manager_events events w).out which ≡ Some o
    → IsSendable (after_manager_events events w) o

-- the event begins a writing of the manager `m` only if `m` has swept
abbrev pub WritesSwept : Seated → ManagerEvent → Type 0
WritesSwept m one.Write = writing_fault m.manager ≡ None → m.has_swept ≡ true
WritesSwept m event = Unit {0}

-- the event begins a writing of a manager only if that manager has swept
abbrev pub SweepsBefore : Masters → MastersEvent → Type 0
SweepsBefore t (Around event) = Unit {0}
SweepsBefore t (At which event) = (m : Seated) → IsAt t which m → WritesSwept m event

-- in these events, no manager begins a writing before a sweep
abbrev pub AllSweepBefore : List MastersEvent → Masters → Type 0
AllSweepBefore = AllAlong SweepsBefore

-- the manager `m`, at index `which`, has a run of its own, for which the other managers are what happens around it
pub record OwnRun (t : Masters) (m : Seated) (after : Masters) (which : ℕ) : Type 0 where
  pub events : List ManagerEvent
  pub can_be : All (one.CanBe m.seat) events
  pub sweeps_first : SweepsFirst events (seen_by t.scene m)
  pub later : Seated
  pub there : IsAt after which later
  pub is : after_manager_events events (seen_by t.scene m) ≡ seen_by after.scene later

-- if managers start together, and none begins a writing before a sweep, each has a run of its own, whatever they do. So
-- each law of a manager's own run holds for each of several managers
abbrev pub EachRunsOnItsOwn : Type 0
EachRunsOnItsOwn =
    (t : Masters) (events : List MastersEvent) → StartTogether t → AllCanBe events t → AllSweepBefore events t
    → (which : ℕ) (m : Seated) → IsAt t which m → OwnRun t m (after_masters_events events t) which
