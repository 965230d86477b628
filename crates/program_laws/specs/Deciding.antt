-- A manager that decides by itself, at its seat on a fabric where other managers work too.
use Rattle.std.specs.Prelude.{◌≡◌, ◌<◌, ◌^◌, ℕ, List, [], ◌∷◌, ◌++◌, Contains, slice_get}
use Rattle.std.specs.Prelude.{if◌then◌else◌, Option, Some, None}
use Rattle.std.specs.List.{AllByRecursion}
use Rattle.fabric_model.specs.declared.cable.NodePort.{NodePort}
use Rattle.fabric_model.specs.Cables.{is_same_port}
use Rattle.sm_manager.specs.declared.outgoing.Outgoing.{Outgoing}
use Rattle.sm_policy.specs.declared.timing.Timing.{Timing}
use Rattle.request_window.specs.declared.limits.Limits.{Limits}
use Rattle.acting_manager.specs.Acting.{Acting, new_acting}
use Rattle.acting_manager.specs.Working.{Told, after_told, given_away}
use Rattle.manager_laws.specs.Scene.{CanHappen, Event, Handed, Scene, after_event, sent_from}
use Rattle.manager_laws.specs.Managing.{CanBe, IsElsewhere, Managing, ManagerEvent, after_manager_events, packet_of}

-- the scene, and the manager that decides by itself with its seat and the packets that were printed
pub record Deciding : Type 0 where
  pub scene : Scene
  pub seat : NodePort
  pub acting : Acting
  pub printed : List Outgoing

-- the manager of `w` decides by itself, and has decided nothing yet
abbrev pub deciding_at : Managing → Timing → Limits → ℕ → Deciding
deciding_at w timing limits newest =
    record {
      scene = w.scene;
      seat = w.seat;
      acting = new_acting w.manager timing limits newest;
      printed = [];
    }

-- an event: something happens on the fabric (`Around`); the manager is told something that is no packet (`Tell`); a
-- packet that was handed up at its seat is given to it, perhaps again (`Hear`, by index); a packet that was printed is
-- sent from its seat, perhaps again (`Send`, by index)
pub data DecidingEvent : Type 0 where
  Around : (event : Event) → DecidingEvent
  Tell : (time : ℕ) → (what : Told) → DecidingEvent
  Hear : (time : ℕ) → (which : ℕ) → DecidingEvent
  Send : (which : ℕ) → DecidingEvent

-- which events there are -----------------------------------------------------------------------------

-- what is told is no packet
abbrev pub IsNoPacket : Told → Type 0
IsNoPacket (Told.Packet bytes from) = ⊥
IsNoPacket what = Unit {0}

-- the event is possible: an event on the fabric can happen, and nobody else sends a packet from `seat` in it; what is
-- told by `Tell` is no packet, since packets are heard
abbrev pub CanDecide : NodePort → DecidingEvent → Type 0
CanDecide seat (Around event) = CanHappen event × IsElsewhere seat event
CanDecide seat (Tell time what) = IsNoPacket what
CanDecide seat event = Unit {0}

-- what events do -------------------------------------------------------------------------------------

-- the manager was told something at the time `time`, and what it had to give out was printed
abbrev pub telling : ℕ → Told → Deciding → Deciding
telling time what d =
    record d {
      acting = given_away (after_told time what d.acting);
      printed = d.printed ++ (after_told time what d.acting).ready;
    }

-- the manager was told of the packet, with the packet's source LID; nothing happens if there is no packet, or if it was
-- not handed up at the seat
abbrev pub hearing_at : ℕ → Option Handed → Deciding → Deciding
hearing_at time None d = d
hearing_at time (Some h) d =
    if is_same_port h.at d.seat then telling time (Told.Packet h.packet.bytes (Some h.packet.slid)) d else d

-- the packet, if there is one, was sent from the seat
abbrev pub sending_from : Option Outgoing → Deciding → Deciding
sending_from None d = d
sending_from (Some o) d = record d { scene = sent_from d.scene d.seat (packet_of o) }

-- `d` after an event
abbrev pub after_deciding_event : Deciding → DecidingEvent → Deciding
after_deciding_event d (Around event) = record d { scene = after_event d.scene event }
after_deciding_event d (Tell time what) = telling time what d
after_deciding_event d (Hear time which) = hearing_at time (slice_get d.scene.handed which) d
after_deciding_event d (Send which) = sending_from (slice_get d.printed which) d

-- `d` after `events`, in turn
abbrev pub after_deciding_events : List DecidingEvent → Deciding → Deciding
after_deciding_events [] d = d
after_deciding_events (event ∷ events) d = after_deciding_events events (after_deciding_event d event)

-- a manager in its scene --------------------------------------------------------------------------------

-- each packet that the manager holds has the property P: those that wait for their turn, those that are out, and those
-- that are ready to be printed
pub record HoldsOnly (P : Outgoing → Type 0) (a : Acting) : Type 0 where
  pub queued : AllByRecursion P a.window.queued
  pub outs : AllByRecursion (λ out. P out.request) a.window.outs
  pub ready : AllByRecursion P a.ready

-- the manager of `w` stands for the one that decides by itself: scene, seat and manager are the same, and it has given
-- out each packet that was printed, and each that the other one holds
pub record StandsFor (w : Managing) (d : Deciding) : Type 0 where
  pub scene : w.scene ≡ d.scene
  pub seat : w.seat ≡ d.seat
  pub manager : w.manager ≡ d.acting.manager
  pub printed : AllByRecursion (Contains w.out) d.printed
  pub held : HoldsOnly (Contains w.out) d.acting
  -- the newest generation fits in 32 bits
  pub newest : d.acting.newest < 2 ^ 32

-- some events of a manager, each of them possible, lead from `w` to one that stands for `d`
pub record LeadsTo (w : Managing) (d : Deciding) : Type 0 where
  pub events : List ManagerEvent
  pub can_be : AllByRecursion (CanBe w.seat) events
  pub stands : StandsFor (after_manager_events events w) d

-- if a manager stands for one that decides by itself, then after any possible events some events of a manager lead to
-- one that stands for what that is then
abbrev pub DecidingIsManaging : Type 0
DecidingIsManaging =
    (w : Managing) (d : Deciding) (events : List DecidingEvent) → StandsFor w d → AllByRecursion (CanDecide d.seat) events
    → LeadsTo w (after_deciding_events events d)

-- the manager of `w` stands for one that decides by itself and has decided nothing yet
abbrev pub NewOnesStand : Type 0
NewOnesStand =
    (w : Managing) (timing : Timing) (limits : Limits) (newest : ℕ) → newest < 2 ^ 32
    → StandsFor w (deciding_at w timing limits newest)
