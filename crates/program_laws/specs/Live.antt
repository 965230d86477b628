-- A process that is controlled by lines, at its seat on a fabric where other managers work too.
use Rattle.std.specs.Prelude.{◌≡◌, ℕ, List, [], ◌∷◌, ◌++◌, All, map, slice_get, if◌then◌else◌, Option, Some, None, IsTrue}
use Rattle.fabric_model.specs.declared.cable.NodePort.{NodePort}
use Rattle.fabric_model.specs.Cables.{is_same_port}
use Rattle.reply_facts.specs.Sighting.{is_generation}
use Rattle.schedule_file.specs.declared.command.Ask.{Ask as Asking}
use Rattle.schedule_file.specs.declared.command.Ask.TheVariants as ask
use Rattle.sm_manager.specs.Manager.{Manager, outstanding}
use Rattle.sm_manager.specs.declared.outgoing.Outgoing.{Outgoing}
use Rattle.manager_laws.specs.Scene.{Event, Handed, CanHappen}
use Rattle.manager_laws.specs.Managing as managing
use Rattle.manager_laws.specs.Managing.{CanBe, IsElsewhere, Managing, ManagerEvent, after_manager_events}
use Rattle.serve_lines.specs.declared.serve_line.ServeLine.{ServeLine}
use Rattle.serve_lines.specs.declared.serve_line.ServeLine.TheVariants.{Ask, Floor, Packet, Timeout, GiveUp}
use Rattle.serve_run.specs.Served.{served, served_all}
use Rattle.program_laws.specs.Told.{given_by}

-- an event of the process: something happens on the fabric (`Around`); the process is given a line that is not a packet
-- (`Tell`); a packet that was handed up at its seat is given to it, perhaps again (`Hear`, by index); a packet that it
-- printed is sent from its seat, perhaps again (`Send`, by index)
pub data LiveEvent : Type 0 where
  Around : (event : Event) → LiveEvent
  Tell : (line : ServeLine) → LiveEvent
  Hear : (which : ℕ) → LiveEvent
  Send : (which : ℕ) → LiveEvent

-- which events there are -----------------------------------------------------------------------------

-- the line may be given by `Tell`: it is not a packet, since packets are heard (`Hear`), and a floor is a generation
abbrev pub IsOrder : ServeLine → Type 0
IsOrder (Packet bytes from) = ⊥
IsOrder (Floor floor) = IsTrue (is_generation floor)
IsOrder line = Unit {0}

-- the event is possible: an event on the fabric can happen, and no other manager sends a packet from `seat` in this
-- event; a line that is given by `Tell` may be given so (`IsOrder`)
abbrev pub CanLive : NodePort → LiveEvent → Type 0
CanLive seat (Around event) = CanHappen event × IsElsewhere seat event
CanLive seat (Tell line) = IsOrder line
CanLive seat event = Unit {0}

-- the lines --------------------------------------------------------------------------------------

-- the line of the packet, with the packet's source LID; none if there is no packet, or if the packet was not handed
-- up at the seat
abbrev pub lines_heard : Managing → Option Handed → List ServeLine
lines_heard w None = []
lines_heard w (Some h) = if is_same_port h.at w.seat then Packet h.packet.bytes h.packet.slid ∷ [] else []

-- the lines that an event gives to the process
abbrev pub lines_by : Managing → LiveEvent → List ServeLine
lines_by w (Around event) = []
lines_by w (Tell line) = line ∷ []
lines_by w (Hear which) = lines_heard w (slice_get w.scene.handed which)
lines_by w (Send which) = []

-- what events do -------------------------------------------------------------------------------------

-- the event of the manager for a request
abbrev pub event_asked : Asking → ManagerEvent
event_asked ask.Sweep = managing.Begin
event_asked ask.Write = managing.Write
event_asked ask.Handover = managing.HandOver
event_asked ask.Yield = managing.Yield
event_asked ask.Rediscover = managing.Rediscover
event_asked (ask.Poll lid) = managing.Poll lid

-- the events of the manager `m` for what a line other than a packet asks; none for lines that only show something
abbrev pub events_of_line : Manager → ServeLine → List ManagerEvent
events_of_line m (Ask what) = event_asked what ∷ []
events_of_line m (Floor floor) = managing.Raise floor ∷ []
events_of_line m (Timeout transaction) = managing.TimeOut transaction ∷ []
events_of_line m GiveUp = map managing.TimeOut (outstanding m)
events_of_line m line = []

-- the events that take the printed packets, one event for each packet
abbrev pub takes_of : List Outgoing → List ManagerEvent
takes_of [] = []
takes_of (out ∷ later) = managing.Take ∷ takes_of later

-- the packets that are printed for the packet; none if there is no packet, or if the packet was not handed up at the
-- seat
abbrev pub given_heard : Managing → Option Handed → List Outgoing
given_heard w None = []
given_heard w (Some h) =
    if is_same_port h.at w.seat then given_by w.manager (Packet h.packet.bytes h.packet.slid) else []

-- the events of the manager for an event of the process
abbrev pub events_by : Managing → LiveEvent → List ManagerEvent
events_by w (Around event) = managing.Around event ∷ []
events_by w (Tell line) = events_of_line w.manager line ++ takes_of (given_by w.manager line)
events_by w (Hear which) = managing.Hear which ∷ takes_of (given_heard w (slice_get w.scene.handed which))
events_by w (Send which) = managing.Send which ∷ []

-- all events -----------------------------------------------------------------------------------------

-- the `Managing` after an event of the process: after the manager's events for that event
abbrev pub after_live : Managing → LiveEvent → Managing
after_live w event = after_manager_events (events_by w event) w

-- the events of the manager for `events` of the process, in turn
abbrev pub events_of : List LiveEvent → Managing → List ManagerEvent
events_of [] w = []
events_of (event ∷ events) w = events_by w event ++ events_of events (after_live w event)

-- the lines that `events` give to the process, in turn
abbrev pub lines_of : List LiveEvent → Managing → List ServeLine
lines_of [] w = []
lines_of (event ∷ events) w = lines_by w event ++ lines_of events (after_live w event)

-- the packets that a process prints for lines, in the order in which it prints them
abbrev pub given_all : List ServeLine → Manager → List Outgoing
given_all [] m = []
given_all (line ∷ later) m = given_by m line ++ given_all later (served m line).now

-- after `events`, the manager of the process is the manager at the seat, and the packets that the process printed are
-- those that the manager gave out since
pub record IsServed (w : Managing) (events : List LiveEvent) : Type 0 where
  pub manager :
      (after_manager_events (events_of events w) w).manager ≡ (served_all w.manager (lines_of events w)).now
  pub out : (after_manager_events (events_of events w) w).out ≡ w.out ++ given_all (lines_of events w) w.manager
  -- the events are possible (`CanBe`)
  pub can_be : All (CanBe w.seat) (events_of events w)

-- whatever live events happen, the manager of the process is the manager at the seat, and the packets that the process
-- printed are those that this manager gave out (`IsServed`)
abbrev pub ServedIsManaging : Type 0
ServedIsManaging = (w : Managing) (events : List LiveEvent) → All (CanLive w.seat) events → IsServed w events
