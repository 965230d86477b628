-- A manager at its seat on a fabric where other managers work too: the calls on it, and the packets that it gave out.
use Rattle.std.specs.Prelude.{◌≡◌, ◌<◌, ◌≢◌, ℕ, true, false, List, [], ◌∷◌, ◌++◌, All, slice_get, if◌then◌else◌, Option, Some, None, IsTrue}
use Rattle.std.specs.Option.{unwrap_or}
use Rattle.fabric_model.specs.declared.cable.NodePort.{NodePort}
use Rattle.fabric_model.specs.Cables.{is_same_port}
use Rattle.smp_bytes.specs.Packet.{permissive_lid}
use Rattle.reply_facts.specs.Report.{Sightings}
use Rattle.fact_store.specs.View.{AreInRange}
use Rattle.reply_facts.specs.Sighting.{IsSighting, is_generation}
use Rattle.fabric_sim.specs.declared.packet.Packet.{Packet}
use Rattle.fabric_sim.specs.Simulation.{fabric_of, is_seat_at}
use Rattle.sm_manager.specs.declared.outgoing.Outgoing.{Outgoing}
use Rattle.lft_blocks.specs.Planning.{Planning}
use Rattle.sm_state.specs.declared.conduct.Conduct.{Conduct}
use Rattle.sm_manager.specs.Manager.{Manager, Taken, is_running, new_manager, after_take_outgoing}
use Rattle.sm_manager.specs.CallLists as calls
use Rattle.sm_manager.specs.CallLists.{Call, after_call}
use Rattle.manager_laws.specs.Scene as around
use Rattle.manager_laws.specs.Scene.{Handed, Scene, Event, CanHappen, IsQuiet, after_event, sent_from}
use Rattle.manager_laws.specs.Truth.{AreGuidsDistinct}

-- the scene, and the manager with its seat and the packets that it gave out
pub record Managing : Type 0 where
  pub scene : Scene
  pub seat : NodePort
  pub manager : Manager
  pub out : List Outgoing

-- an event: something happens on the fabric (`Around`); the manager is called to begin a sweep (`Begin`) or to write
-- its plan (`Write`); it gives out its first queued packet (`Take`). A packet that it gave out is sent from its seat,
-- perhaps again (`Send`, by index); a packet that was handed up at its seat is given to it, perhaps again (`Hear`, by
-- index); one of its requests times out (`TimeOut`). Its floor is raised (`Raise`), or facts of others at a floor are
-- merged with its own (`Merge`). It is called to poll a LID or, with None, a manager that its last sweep saw (`Poll`), to
-- hand over to its successor (`HandOver`) or its heir (`Yield`), or to discover anew (`Rediscover`)
pub data ManagerEvent : Type 0 where
  Around : (event : Event) → ManagerEvent
  Begin : ManagerEvent
  Write : ManagerEvent
  Take : ManagerEvent
  Send : (which : ℕ) → ManagerEvent
  Hear : (which : ℕ) → ManagerEvent
  TimeOut : (transaction : ℕ) → ManagerEvent
  Raise : (floor : ℕ) → ManagerEvent
  Merge : (floor : ℕ) → (sightings : Sightings) → ManagerEvent
  Poll : (lid : Option ℕ) → ManagerEvent
  HandOver : ManagerEvent
  Yield : ManagerEvent
  Rediscover : ManagerEvent

-- which events there are --------------------------------------------------------------------------

-- in the event, nobody else sends a packet from the port `seat`
abbrev pub IsElsewhere : NodePort → Event → Type 0
IsElsewhere seat (around.Send other sending) = other ≢ seat
IsElsewhere seat (around.Emit other sending) = other ≢ seat
IsElsewhere seat event = Unit {0}

-- the event is possible: an event on the fabric can happen (`CanHappen`), and nobody else sends a packet from `seat` in
-- this event; a floor is a generation; merged sightings are in range
abbrev pub CanBe : NodePort → ManagerEvent → Type 0
CanBe seat (Around event) = CanHappen event × IsElsewhere seat event
CanBe seat (Raise floor) = IsTrue (is_generation floor)
CanBe seat (Merge floor sightings) = IsTrue (is_generation floor) × All IsSighting sightings
CanBe seat event = Unit {0}

-- what events do ---------------------------------------------------------------------------------

-- `w` once its manager was called; a call that the manager refuses leaves `w` unchanged
abbrev pub calling : Managing → Call → Managing
calling w call = record w { manager = after_call w.manager call }

-- `out` with one more packet, if there is one
abbrev pub one_more : List Outgoing → Option Outgoing → List Outgoing
one_more out None = out
one_more out (Some packet) = out ++ packet ∷ []

-- the `Managing` once its manager has given out its first packet, if it had one
abbrev pub taking : Managing → Taken → Managing
taking w t = record w { manager = t.manager; out = one_more w.out t.packet }

-- the packet `o` as it is sent: to the LID that `o` names or, if `o` names none, to the permissive LID, along the path
-- in its bytes
abbrev pub packet_of : Outgoing → Packet
packet_of o = record { bytes = o.packet; slid = permissive_lid; dlid = unwrap_or o.to permissive_lid }

-- the `Managing` once the packet, if there is one, was sent from the manager's seat
abbrev pub sending : Managing → Option Outgoing → Managing
sending w None = w
sending w (Some o) = record w { scene = sent_from w.scene w.seat (packet_of o) }

-- `w` once its manager was given the packet, with the packet's source LID; unchanged if there is no packet, or if the
-- packet was not handed up at the manager's seat
abbrev pub hearing : Managing → Option Handed → Managing
hearing w None = w
hearing w (Some h) =
    if is_same_port h.at w.seat then calling w (calls.Packet h.packet.bytes (Some h.packet.slid)) else w

-- `w` after an event; a call that the manager refuses leaves `w` unchanged
abbrev pub after_manager_event : Managing → ManagerEvent → Managing
after_manager_event w (Around event) = record w { scene = after_event w.scene event }
after_manager_event w Begin = calling w calls.BeginSweep
after_manager_event w Write = calling w calls.WriteSteps
after_manager_event w Take = taking w (after_take_outgoing w.manager)
after_manager_event w (Send which) = sending w (slice_get w.out which)
after_manager_event w (Hear which) = hearing w (slice_get w.scene.handed which)
after_manager_event w (TimeOut transaction) = calling w (calls.Timeout transaction)
after_manager_event w (Raise floor) = calling w (calls.Raise floor)
after_manager_event w (Merge floor sightings) = calling w (calls.Merge floor sightings)
after_manager_event w (Poll lid) = calling w (calls.Poll lid)
after_manager_event w HandOver = calling w calls.Handover
after_manager_event w Yield = calling w calls.Yield
after_manager_event w Rediscover = calling w calls.Rediscover

-- the `Managing` after `events`, in turn
abbrev pub after_manager_events : List ManagerEvent → Managing → Managing
after_manager_events [] w = w
after_manager_events (event ∷ events) w = after_manager_events events (after_manager_event w event)

-- each of `events`, in turn, is as `is_so` requires when it happens
abbrev pub AllAlong : (Managing → ManagerEvent → Type 0) → List ManagerEvent → Managing → Type 0
AllAlong is_so [] w = Unit {0}
AllAlong is_so (event ∷ events) w = is_so w event × AllAlong is_so events (after_manager_event w event)

-- where runs begin -------------------------------------------------------------------------------

-- the manager has nothing to send, and none of its requests is outstanding: it is new, or between its tasks
pub record IsAtRest (m : Manager) : Type 0 where
  -- no sweep is running
  pub sweep : is_running m.sweep ≡ false
  -- no request outside sweeps is outstanding
  pub pending : m.pending ≡ []
  -- no packet is to be sent
  pub outgoing : m.outgoing ≡ []
  -- the keys, generations and values of the manager's facts are in range, and its floor is a generation
  pub facts : AreInRange m.store
  pub floor : IsTrue (is_generation m.store.floor)

-- a run may start: nothing is on its way, GUIDs differ, and the manager sits at its seat, at rest
pub record Starts (w : Managing) : Type 0 where
  -- no packet is on its way or was handed up; the agents may be in any state
  pub quiet : IsQuiet w.scene
  -- no two nodes have the same GUID
  pub distinct : AreGuidsDistinct (fabric_of w.scene.fabric)
  -- the manager sits at a port of an adapter
  pub seat : is_seat_at w.scene.fabric w.seat ≡ true
  -- the manager has the port's number
  pub port : w.manager.port ≡ w.seat.port
  -- the manager's LMC is at most 7
  pub lmc : w.manager.planning.lmc < 8
  pub at_rest : IsAtRest w.manager
  -- the manager has not given out a packet
  pub out : w.out ≡ []

-- a new manager is at rest
abbrev pub NewManagersRest : Type 0
NewManagersRest =
    (port_guid port priority : ℕ) (conduct : Conduct) (planning : Planning) → IsAtRest (new_manager port_guid port priority conduct planning)
