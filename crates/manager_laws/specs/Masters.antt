-- Several managers at seats of one fabric, which act in any order.
use Rattle.std.specs.Prelude.{◌≡◌, ℕ, Bool, true, false, ◌&&◌, List, [], ◌∷◌, length, slice_get, slice_set, ◌==◌, nat_le, is_none, if◌then◌else◌, Option, Some, None}
use Rattle.fabric_model.specs.declared.cable.NodePort.{NodePort}
use Rattle.smp_bytes.specs.Header.{set, sm_info}
use Rattle.smp_bytes.specs.Field.{number_in}
use Rattle.smp_bytes.specs.Packet.{attribute_id, method}
use Rattle.fact_store.specs.View.{cells_of}
use Rattle.sweep.specs.Sweep.{Sweep}
use Rattle.sm_manager.specs.declared.outgoing.Outgoing.{Outgoing}
use Rattle.sm_manager.specs.Manager.{Manager, begin_fault}
use Rattle.sm_manager.specs.PlanFaults.{writing_fault}
use Rattle.manager_laws.specs.Scene as around
use Rattle.manager_laws.specs.Scene.{Scene, ByLid, ByPath, Event, CanHappen, IsQuiet, after_event}
use Rattle.manager_laws.specs.Managing as one
use Rattle.manager_laws.specs.Managing.{Managing, ManagerEvent, Starts, IsElsewhere, after_manager_event}
use Rattle.manager_laws.specs.Complete.{IsWhole}

-- a manager with its seat and the packets that it gave out. `has_swept` says whether it began a sweep in the run, and
-- `knows_one_sweep` whether all that it knows is from its last sweep, which began when it held no facts
pub record Seated : Type 0 where
  pub seat : NodePort
  pub manager : Manager
  pub out : List Outgoing
  pub has_swept : Bool
  pub knows_one_sweep : Bool

-- the scene, and the managers on it
pub record Masters : Type 0 where
  pub scene : Scene
  pub managers : List Seated

-- an event of several managers: something happens on the fabric, or to the manager at index `which`
pub data MastersEvent : Type 0 where
  Around : (event : Event) → MastersEvent
  At : (which : ℕ) → (event : ManagerEvent) → MastersEvent

-- `m` is the manager at index `which`
abbrev pub IsAt : Masters → ℕ → Seated → Type 0
IsAt t which m = slice_get t.managers which ≡ Some m

-- the manager `m` on its own, for which the others are what happens around it
abbrev pub seen_by : Scene → Seated → Managing
seen_by scene m = record { scene = scene; seat = m.seat; manager = m.manager; out = m.out }

-- what events do --------------------------------------------------------------------------

-- after the event, the manager has begun a sweep in the run
abbrev pub has_swept_after : Seated → ManagerEvent → Bool
has_swept_after m one.Begin = if is_none (begin_fault m.manager) then true else m.has_swept
has_swept_after m event = m.has_swept

-- all that the manager knows after the event is from one sweep. This is so once a sweep begins while the manager holds
-- no facts, until facts of others are merged or its floor is raised
abbrev pub knows_one_after : Seated → ManagerEvent → Bool
knows_one_after m one.Begin =
    if is_none (begin_fault m.manager) then length (cells_of m.manager.store) == 0 else m.knows_one_sweep
knows_one_after m (one.Raise floor) = m.knows_one_sweep && nat_le floor m.manager.store.floor
knows_one_after m (one.Merge floor sightings) =
    m.knows_one_sweep && (length sightings == 0 && nat_le floor m.manager.store.floor)
knows_one_after m event = m.knows_one_sweep

-- `m` after `event`; `w` is the `Managing` of `m` after the event
abbrev pub seated_after : Seated → ManagerEvent → Managing → Seated
seated_after m event w =
    record {
      seat = m.seat;
      manager = w.manager;
      out = w.out;
      has_swept = has_swept_after m event;
      knows_one_sweep = knows_one_after m event;
    }

-- the managers and the scene once the event has happened to the manager at index `which`; unchanged if the index has no
-- manager
abbrev pub acting : Masters → ℕ → ManagerEvent → Option Seated → Masters
acting t which event None = t
acting t which event (Some m) =
    let w = after_manager_event (seen_by t.scene m) event in
    record { scene = w.scene; managers = slice_set t.managers which (seated_after m event w) }

-- the managers and the scene after an event
abbrev pub after_masters_event : Masters → MastersEvent → Masters
after_masters_event t (Around event) = record t { scene = after_event t.scene event }
after_masters_event t (At which event) = acting t which event (slice_get t.managers which)

-- the managers and the scene after `events`, in turn
abbrev pub after_masters_events : List MastersEvent → Masters → Masters
after_masters_events [] t = t
after_masters_events (event ∷ events) t = after_masters_events events (after_masters_event t event)

-- each of `events`, in turn, is as `is_so` requires when it happens
abbrev pub AllAlong : (Masters → MastersEvent → Type 0) → List MastersEvent → Masters → Type 0
AllAlong is_so [] t = Unit {0}
AllAlong is_so (event ∷ events) t = is_so t event × AllAlong is_so events (after_masters_event t event)

-- which events there may be ----------------------------------------------------------------

-- if another sender sends a Set in the event, by LIDs or along a path, the Set is for SMInfo
abbrev pub SetsInfoOnly : Event → Type 0
SetsInfoOnly (around.Send seat (ByLid packet)) =
    number_in method packet.bytes ≡ set → number_in attribute_id packet.bytes ≡ sm_info
SetsInfoOnly (around.Send seat (ByPath method_number attribute modifier tid path payload)) =
    method_number ≡ set → attribute ≡ sm_info
SetsInfoOnly event = Unit {0}

-- the event happens to a manager itself, and not around it
abbrev pub IsItsOwn : ManagerEvent → Type 0
IsItsOwn (one.Around event) = ⊥
IsItsOwn event = Unit {0}

-- there is a sweep, and it has every answer
abbrev pub IsWholeSweep : Option Sweep → Type 0
IsWholeSweep None = ⊥
IsWholeSweep (Some s) = IsWhole s

-- the event begins a writing of the manager `m` only if all that `m` knows is from one sweep, and this sweep has every
-- answer
abbrev pub WritesWhole : Seated → ManagerEvent → Type 0
WritesWhole m one.Write =
    writing_fault m.manager ≡ None → (m.knows_one_sweep ≡ true) × IsWholeSweep m.manager.sweep
WritesWhole m event = Unit {0}

-- the event is possible: an event on the fabric can happen, and no other sender sends a packet from a manager's seat
-- in this event; an event at a manager happens to this manager itself, and is possible there (`CanBe` of `Managing`)
abbrev pub CanBe : Masters → MastersEvent → Type 0
CanBe t (Around event) =
    CanHappen event × ((which : ℕ) (m : Seated) → IsAt t which m → IsElsewhere m.seat event)
CanBe t (At which event) =
    (m : Seated) → IsAt t which m → IsItsOwn event × one.CanBe m.seat event

-- each of `events` is possible when it happens
abbrev pub AllCanBe : List MastersEvent → Masters → Type 0
AllCanBe = AllAlong CanBe

-- where runs begin -------------------------------------------------------------------------

-- managers start together: no packet is on its way, and each has a seat of its own, is at rest, and has swept nothing
-- yet
pub record StartTogether (t : Masters) : Type 0 where
  pub quiet : IsQuiet t.scene
  pub each : (which : ℕ) (m : Seated) → IsAt t which m → Starts (seen_by t.scene m)
  pub none_swept : (which : ℕ) (m : Seated) → IsAt t which m → (m.has_swept ≡ false) × (m.knows_one_sweep ≡ false)
  pub apart : (which other : ℕ) (m n : Seated) → IsAt t which m → IsAt t other n → m.seat ≡ n.seat → which ≡ other
