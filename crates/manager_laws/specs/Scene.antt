-- A fabric on which subnet managers work, the packets that were handed up to them, and what may happen while no cable
-- changes.
use Rattle.std.specs.Prelude.{◌≡◌, ◌≢◌, ℕ, ◌<◌, ◌≤◌, ◌^◌, Bool, false, ◌&&◌, not, List, [], ◌∷◌, ◌++◌, length, slice_get, ◌==◌, if◌then◌else◌, Option, Some, None, Result, Ok, Err}
use Rattle.fabric_model.specs.declared.cable.NodePort.{NodePort}
use Rattle.fabric_model.specs.Cables.{is_same_port}
use Rattle.smp_bytes.specs.Header.{set, sm_info}
use Rattle.smp_bytes.specs.Field.{number_in}
use Rattle.smp_bytes.specs.Packet.{attribute_id, is_directed, is_response, max_hops, method as method_field}
use Rattle.smp_bytes.specs.Requests.{directed, answer_packet}
use Rattle.smp_bytes.specs.ReadBack.{FitsRequest}
use Rattle.fabric_sim.specs.declared.packet.Packet.{Packet}
use Rattle.fabric_sim.specs.declared.delivered.Delivered.{Delivered}
use Rattle.fabric_sim.specs.declared.delivered.Delivered.TheVariants.{Moved, Answered, ToManager, Discarded}
use Rattle.fabric_sim.specs.declared.fabric_fault.FabricFault.{FabricFault}
use Rattle.fabric_sim.specs.Simulation.{Simulation, IsSimulation}
use Rattle.fabric_sim.specs.Delivery.{after_deliver}
use Rattle.fabric_sim.specs.Changes.{after_emit, after_inject, after_repeat, after_lose}
use Rattle.fabric_sim.specs.ThereAndBack.{BeginsWith, directed_packet}

-- a packet, and the port at which it was handed up
pub record Handed : Type 0 where
  pub at : NodePort
  pub packet : Packet

-- the fabric that managers work on, and all packets that were handed up to them so far
pub record Scene : Type 0 where
  pub fabric : Simulation
  pub handed : List Handed

-- a packet that may be sent from a port: any packet that is forwarded by LIDs (`ByLid`), a request along a
-- path (`ByPath`), or the answer to a request for SMInfo that was handed up there (`Answer`). `which` is the request's
-- index among all packets handed up
pub data Sending : Type 0 where
  ByLid : (packet : Packet) → Sending
  ByPath : (method attribute modifier tid : ℕ) (path payload : List ℕ) → Sending
  Answer : (which status : ℕ) (payload : List ℕ) → Sending

-- an event on the fabric: a packet takes a step, is lost or is copied; a manager sends from its seat; or any node sends
-- from a port of its own, a host for example, or a switch that sends a trap (`Emit`)
pub data Event : Type 0 where
  Deliver : (serial : ℕ) → Event
  Lose : (serial : ℕ) → Event
  Repeat : (serial : ℕ) → Event
  Send : (seat : NodePort) (sending : Sending) → Event
  Emit : (at : NodePort) (sending : Sending) → Event

-- which events there are --------------------------------------------------------------------------

-- a manager may send this from `seat`: a packet of 256 bytes that is forwarded by LIDs; a request with a method below
-- 2^7, fields in range, and a path of at most `max_hops` ports that leaves by the seat's port; or an answer with a
-- status below 2^15 and an attribute of 64 bytes
abbrev pub CanSend : NodePort → Sending → Type 0
CanSend seat (ByLid packet) = (length packet.bytes ≡ 256) × (is_directed packet.bytes ≡ false)
CanSend seat (ByPath method attribute modifier tid path payload) =
    FitsRequest method attribute modifier tid payload × (method < 2 ^ 7) × (length path ≤ max_hops)
    × BeginsWith seat.port path
CanSend seat (Answer which status payload) = (status < 2 ^ 15) × (length payload ≡ 64)

-- whoever is no manager may send this from the port `at`: what a manager may send there (`CanSend`), other than a Set or
-- an answer to a request for SMInfo
abbrev pub CanEmit : NodePort → Sending → Type 0
CanEmit at (ByLid packet) = CanSend at (ByLid packet) × (number_in method_field packet.bytes ≢ set)
CanEmit at (ByPath method attribute modifier tid path payload) =
    CanSend at (ByPath method attribute modifier tid path payload) × (method ≢ set)
CanEmit at (Answer which status payload) = ⊥

-- the event can happen; if a packet is sent in it, the sender may send this (`CanSend`, `CanEmit`)
abbrev pub CanHappen : Event → Type 0
CanHappen (Send seat sending) = CanSend seat sending
CanHappen (Emit at sending) = CanEmit at sending
CanHappen (Deliver serial) = Unit {0}
CanHappen (Lose serial) = Unit {0}
CanHappen (Repeat serial) = Unit {0}

-- what events do ---------------------------------------------------------------------------------

-- the scene with `fabric` in place of its fabric
abbrev pub with_fabric : Scene → Simulation → Scene
with_fabric s fabric = record s { fabric = fabric }

-- the packet that a delivery handed up, and its port; none if the delivery handed up no packet
abbrev pub handed_by : Result Delivered FabricFault → List Handed
handed_by (Ok (ToManager at packet)) = record { at = at; packet = packet } ∷ []
handed_by (Ok (Moved serial)) = []
handed_by (Ok (Answered serial)) = []
handed_by (Ok (Discarded reason)) = []
handed_by (Err fault) = []

-- the scene once the packet was sent from the port `seat`; unchanged if `seat` is not a seat, or if no serial number
-- is left
abbrev pub sent_from : Scene → NodePort → Packet → Scene
sent_from s seat packet = with_fabric s (after_inject s.fabric seat packet).fabric

-- the packet was handed up at the port `seat`, and is a request for SMInfo
abbrev pub asks_manager : NodePort → Handed → Bool
asks_manager seat h =
    is_same_port h.at seat && not (is_response h.packet.bytes) && number_in attribute_id h.packet.bytes == sm_info

-- the answer to `request`: back along the path of `request` if that is directed, otherwise to the LID that `request`
-- came from
abbrev pub answer_to : Packet → ℕ → List ℕ → Packet
answer_to request status payload =
    let answer = answer_packet request.bytes status payload in
    if is_directed request.bytes then directed_packet answer
    else record { bytes = answer; slid = request.dlid; dlid = request.slid }

-- the scene once the answer to a request for SMInfo that was handed up at `seat` was sent from there; unchanged if
-- there is no packet, or if the packet is not such a request
abbrev pub answered_from : Scene → NodePort → ℕ → List ℕ → Option Handed → Scene
answered_from s seat status payload None = s
answered_from s seat status payload (Some h) =
    if asks_manager seat h then sent_from s seat (answer_to h.packet status payload) else s

-- the scene once a manager has sent from its port `seat`
abbrev pub sent : Scene → NodePort → Sending → Scene
sent s seat (ByLid packet) = sent_from s seat packet
sent s seat (ByPath method attribute modifier tid path payload) =
    sent_from s seat (directed_packet (directed method attribute modifier tid path payload))
sent s seat (Answer which status payload) = answered_from s seat status payload (slice_get s.handed which)

-- the scene once a node without a manager has sent the packet from its port `at`; unchanged if there is no such port for
-- a cable, or if no serial number is left
abbrev pub emitted_from : Scene → NodePort → Packet → Scene
emitted_from s at packet = with_fabric s (after_emit s.fabric at packet).fabric

-- the scene once a node without a manager has sent from its port `at`; only managers answer requests for SMInfo
abbrev pub emitted : Scene → NodePort → Sending → Scene
emitted s at (ByLid packet) = emitted_from s at packet
emitted s at (ByPath method attribute modifier tid path payload) =
    emitted_from s at (directed_packet (directed method attribute modifier tid path payload))
emitted s at (Answer which status payload) = s

-- the scene after an event; a call that the fabric refuses leaves the scene unchanged
abbrev pub after_event : Scene → Event → Scene
after_event s (Deliver serial) =
    let done = after_deliver s.fabric serial in
    record { fabric = done.fabric; handed = s.handed ++ handed_by done.result }
after_event s (Lose serial) = with_fabric s (after_lose s.fabric serial).fabric
after_event s (Repeat serial) = with_fabric s (after_repeat s.fabric serial).fabric
after_event s (Send seat sending) = sent s seat sending
after_event s (Emit at sending) = emitted s at sending

-- the scene after `events`, in turn
abbrev pub after_events : List Event → Scene → Scene
after_events [] s = s
after_events (event ∷ events) s = after_events events (after_event s event)

-- a scene is quiet: no packet is on its way, and none was handed up; agents may be in any state
pub record IsQuiet (s : Scene) : Type 0 where
  pub fabric : IsSimulation s.fabric
  pub flights : s.fabric.flights ≡ []
  pub handed : s.handed ≡ []
