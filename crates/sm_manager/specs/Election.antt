-- What a manager sends to other managers: polls, and controls when it hands over or takes over. InfiniBand Architecture
-- Specification, Volume 1: subnet management, subnet manager (polling, handover); SMInfo.
use Rattle.std.specs.Prelude.{ℕ, ◌+◌, Bool, false, ◌&&◌, List, [], ◌∷◌, ◌++◌, length, replicate, is_none, nat_lt}
use Rattle.std.specs.Prelude.{◌==◌, if◌then◌else◌, Option, Some, None, option_and_then, option_map}
use Rattle.smp_bytes.specs.Header.{get, set, sm_info}
use Rattle.smp_bytes.specs.Packet.{max_hops}
use Rattle.smp_bytes.specs.Requests.{directed, lid_routed}
use Rattle.attr_codec.specs.SmInfo.{sm_info_bytes}
use Rattle.fact_store.specs.View.{cells_of}
use Rattle.subnet_view.specs.declared.end_port.EndPort.{EndPort}
use Rattle.subnet_view.specs.EndPort.{is_end_port}
use Rattle.subnet_view.specs.Reading.{Cells}
use Rattle.lid_assign.specs.Lids.{lid_of, lids}
use Rattle.sm_state.specs.declared.control.Control.{Control}
use Rattle.sm_state.specs.declared.event.Event.TheVariants.{HandoverWanted}
use Rattle.sm_state.specs.declared.event.Message.{Message}
use Rattle.sm_state.specs.declared.state.SmState.TheVariants.{Standby}
use Rattle.sm_state.specs.declared.transition.Transition.{Transition}
use Rattle.sm_state.specs.Control.{control_of_message, modifier_of_control}
use Rattle.sm_state.specs.Transitions.{stepped}
use Rattle.sm_manager.specs.declared.fault.ManagerFault.{ManagerFault}
use Rattle.sm_manager.specs.declared.fault.ManagerFault.TheVariants as fault
use Rattle.sm_manager.specs.declared.outgoing.Outgoing.{Outgoing}
use Rattle.sm_manager.specs.declared.way.Way.{Way}
use Rattle.sm_manager.specs.declared.way.Way.TheVariants.{Along, ToLid}
use Rattle.sm_manager.specs.declared.pending.Pending.{Pending}
use Rattle.sm_manager.specs.declared.pending.Purpose.{Purpose}
use Rattle.sm_manager.specs.declared.pending.Purpose.TheVariants as purpose
use Rattle.sm_state.specs.declared.election.SeenManager.{SeenManager}
use Rattle.sm_state.specs.declared.standing.Standing.{Standing}
use Rattle.sweep.specs.Sweep.{Sweep, path_to}
use Rattle.sm_manager.specs.Manager.{Manager}
use Rattle.sm_manager.specs.PlanFaults.{number_fault, or_else, plan_fault}
use Rattle.sm_state.specs.Election.{heir_of, polled_of, successor_of}
use Rattle.sm_state.specs.Standing.{info_of, info_with, is_in, moved_to, moved_by}
use Rattle.sm_state.specs.declared.control.Control.TheVariants as control
use Rattle.sm_state.specs.declared.event.Event.TheVariants as event
use Rattle.sm_state.specs.Conduct.{is_live}
use Rattle.sm_manager.specs.Writing.{is_done_by}

-- requests for SMInfo ---------------------------------------------------------------------------

-- the LID to which a packet is sent that goes this way; None along a path
abbrev pub lid_of_way : Way → Option ℕ
lid_of_way (ToLid lid) = Some lid
lid_of_way (Along path) = None

-- the path of this way; None by LIDs
abbrev pub path_of_way : Way → Option (List ℕ)
path_of_way (ToLid lid) = None
path_of_way (Along path) = Some path

-- an outstanding request for SMInfo that went this way, with this number, purpose and attribute modifier
abbrev pub info_pending : ℕ → Purpose → ℕ → Way → Pending
info_pending number purpose modifier way =
    record {
      number = number;
      purpose = purpose;
      attribute = sm_info;
      modifier = modifier;
      path =
          path_of_way way;
    }

-- the packet of a request for SMInfo with this method, modifier and number, which goes the given way, with 64 bytes of
-- data
abbrev pub info_packet : ℕ → ℕ → ℕ → Way → List ℕ → List ℕ
info_packet method modifier number (ToLid lid) payload = lid_routed method sm_info modifier number payload
info_packet method modifier number (Along path) payload = directed method sm_info modifier number path payload

-- the same packet, to be sent this way
abbrev pub info_out : ℕ → ℕ → ℕ → Way → List ℕ → Outgoing
info_out method modifier number way payload =
    record { packet = info_packet method modifier number way payload; to = lid_of_way way }

-- an outstanding poll with the number `number` that went this way
abbrev pub poll_pending : ℕ → Way → Pending
poll_pending number way = info_pending number purpose.Poll 0 way

-- the packet of a poll: a Get of SMInfo with 64 bytes of 0
abbrev pub poll_packet : ℕ → Way → List ℕ
poll_packet number way = info_packet get 0 number way (replicate 64 0)

-- a poll to be sent this way
abbrev pub poll_out : ℕ → Way → Outgoing
poll_out number way = info_out get 0 number way (replicate 64 0)

-- a control to be sent this way: a Set with the SMInfo that the manager `s` sends with `control`
abbrev pub control_out : Standing → ℕ → Way → Control → Outgoing
control_out s number way control =
    info_out set (modifier_of_control control) number way (sm_info_bytes (info_with control s))

-- the manager after the packet `out` was queued and the request `waits` was added to the outstanding ones. This uses
-- up the manager's next number
abbrev pub asked : Manager → Pending → Outgoing → Manager
asked m waits out =
    record m { counter = m.counter + 1; pending = m.pending ++ waits ∷ []; outgoing = m.outgoing ++ out ∷ [] }

-- the manager after a control that goes this way was queued, which is now outstanding
abbrev pub control_sent : Manager → Way → Control → Manager
control_sent m way control =
    asked m (info_pending m.counter purpose.Control (modifier_of_control control) way)
    (control_out m.standing m.counter way control)

-- the number of requests that a message takes: 1 if there is a message and there is a way to send it, else 0
abbrev pub message_count : Option Way → Option Message → ℕ
message_count None message = 0
message_count (Some way) None = 0
message_count (Some way) (Some message) = 1

-- the outstanding request of a message; none if there is no message or no way
abbrev pub message_pending : ℕ → Option Way → Option Message → List Pending
message_pending counter None message = []
message_pending counter (Some way) None = []
message_pending counter (Some way) (Some message) =
    info_pending counter purpose.Control (modifier_of_control (control_of_message message)) way ∷ []

-- if there are a message and a way, the message's packet, to be sent this way; otherwise none
abbrev pub message_out : Standing → ℕ → Option Way → Option Message → List Outgoing
message_out s counter None message = []
message_out s counter (Some way) None = []
message_out s counter (Some way) (Some message) = control_out s counter way (control_of_message message) ∷ []

-- the manager after a message was queued as a control; unchanged if there is no message or no way
abbrev pub after_message : Manager → Option Way → Option Message → Manager
after_message m None message = m
after_message m (Some way) None = m
after_message m (Some way) (Some message) = control_sent m way (control_of_message message)

-- polls -----------------------------------------------------------------------------------------

-- whether a path leaves by `port` and has at most 63 hops, as every path of a manager's sweeps does
abbrev pub is_way_out : ℕ → List ℕ → Bool
is_way_out port [] = false
is_way_out port (first ∷ path) = first == port && nat_lt (length path) max_hops

-- the given path if it leaves by `port` and has at most 63 hops, else None
abbrev pub if_way_out : ℕ → Option (List ℕ) → Option (List ℕ)
if_way_out port None = None
if_way_out port (Some path) = if is_way_out port path then Some path else None

-- the path by which the last sweep first reached the port where the manager `s` was seen; None if there is no sweep,
-- or if the sweep did not reach that port
abbrev pub path_seen : Option Sweep → SeenManager → Option (List ℕ)
path_seen None s = None
path_seen (Some sweep) s = path_to sweep s.guid s.port

-- the way along the given path; None if there is none
abbrev pub along : Option (List ℕ) → Option Way
along path = option_map Along path

-- the way to the given manager: the path by which the last sweep first reached the port where it was seen. None if
-- there is no manager, if there is no such path, or if the path does not leave by the own port or has more than 63 hops
abbrev pub way_seen : Manager → Option SeenManager → Option Way
way_seen m seen = along (if_way_out m.port (option_and_then (path_seen m.sweep) seen))

-- the manager to which a poll without a LID goes, one of those that the last sweep saw; None if there is no manager
-- to poll
abbrev pub polled : Manager → Option SeenManager
polled m = polled_of (info_of m.standing) m.seen

-- the way of a poll: to the given LID or, if there is none, to the manager to poll; None if there is no way to that one
abbrev pub poll_way : Manager → Option ℕ → Option Way
poll_way m (Some lid) = Some (ToLid lid)
poll_way m None = way_seen m (polled m)

-- `Nobody` if there is no way, else None
abbrev pub unless_way : Option Way → Option ManagerFault
unless_way (Some way) = None
unless_way None = Some fault.Nobody

-- why no poll is sent, lack of memory aside: the manager is not standby, there is neither a LID nor a way to a
-- manager that the last sweep saw, or no number is left; None if a poll may be sent
abbrev pub poll_fault : Manager → Option ℕ → Option ManagerFault
poll_fault m lid =
    if is_in Standby m.standing then or_else (unless_way (poll_way m lid)) (number_fault (m.counter + 1))
    else Some fault.NotStandby

-- the manager after a poll that goes the given way was queued; unchanged if there is no way
abbrev pub polled_by : Manager → Option Way → Manager
polled_by m None = m
polled_by m (Some way) = asked m (poll_pending m.counter way) (poll_out m.counter way)

-- the manager after a poll was queued: to the LID `lid` or, if `lid` is None, to a manager that the last sweep saw
abbrev pub after_poll : Manager → Option ℕ → Manager
after_poll m lid = polled_by m (poll_way m lid)

-- handing over ----------------------------------------------------------------------------------

-- the move of the manager `m` when another manager is to become master
abbrev pub handover_move : Manager → Transition
handover_move m = stepped m.standing.conduct m.standing.state HandoverWanted

-- the successor: of the managers that the last sweep saw, the one that is to take over; None if none of them may take
-- over
abbrev pub successor : Manager → Option SeenManager
successor m = successor_of (info_of m.standing) m.seen

-- the end port where the manager `s` was seen; None if the facts `cells` have no end port there
abbrev pub port_seen : Cells → SeenManager → Option EndPort
port_seen cells s = if is_end_port cells s.guid s.port then Some (record { node = s.guid; port = s.port }) else None

-- the end port where the given manager was seen; None if none is given, or the facts have no end port there
abbrev pub receiver_port : Manager → Option SeenManager → Option EndPort
receiver_port m receiver = option_and_then (port_seen (cells_of m.store)) receiver

-- if the end port of the given manager is known and gets a LID in the plan, this LID; otherwise None
abbrev pub receiver_lid : Manager → Option SeenManager → Option ℕ
receiver_lid m receiver =
    option_and_then (lid_of (lids m.planning.lmc (cells_of m.store))) (receiver_port m receiver)

-- the way by the plan to the given manager, which is by its port's LID (`receiver_lid`)
abbrev pub planned_way : Manager → Option SeenManager → Option Way
planned_way m receiver = option_map ToLid (receiver_lid m receiver)

-- the way of a HANDOVER to the given manager: under the live conduct the path by which it was seen, so that no LID has
-- to be right, and otherwise by the LID of its port in the plan
abbrev pub receiver_way : Manager → Option SeenManager → Option Way
receiver_way m receiver = if is_live m.standing.conduct then way_seen m receiver else planned_way m receiver

-- why a master does not hand over by the plan to the given manager: none is given, some end port finds no LID in the
-- plan, the plan gives the manager's port no LID, or no number is left; None if it may
abbrev pub planned_fault : Manager → Option SeenManager → Option ManagerFault
planned_fault m receiver =
    if is_none receiver then Some fault.Nobody
    else or_else (plan_fault m.planning.lmc (cells_of m.store))
    (or_else (unless_way (planned_way m receiver)) (number_fault (m.counter + 1)))

-- why a master does not hand over to the given manager, lack of memory aside. Under the live conduct: there is no way
-- to it, or no number is left. Otherwise as `planned_fault` says. None if the master may hand over
abbrev pub receiver_fault : Manager → Option SeenManager → Option ManagerFault
receiver_fault m receiver =
    if is_live m.standing.conduct then or_else (unless_way (way_seen m receiver)) (number_fault (m.counter + 1))
    else planned_fault m receiver

-- why a manager does not hand over to the given one, lack of memory aside: it is not master, or `receiver_fault` gives
-- a fault; None if it may hand over
abbrev pub handing_fault : Manager → Option SeenManager → Option ManagerFault
handing_fault m receiver = if is_none (handover_move m).message then Some fault.NotMaster else receiver_fault m receiver

-- why a manager does not hand over to its successor
abbrev pub handover_fault : Manager → Option ManagerFault
handover_fault m = handing_fault m (successor m)

-- the manager after its state has moved by `handover_move` and the message of this move was queued as a control that
-- goes the given way; nothing is queued if there is no way or no message
abbrev pub handed_to : Manager → Option Way → Manager
handed_to m way =
    after_message (record m { standing = moved_to (handover_move m).state m.standing }) way (handover_move m).message

-- the way of a HANDOVER to the successor
abbrev pub successor_way : Manager → Option Way
successor_way m = receiver_way m (successor m)

-- the manager after its state has moved by `handover_move` and a HANDOVER to the successor was queued
abbrev pub after_handover : Manager → Manager
after_handover m = handed_to m (successor_way m)

-- the heir: of the managers that the last sweep saw, the one that gets the subnet although it does not win over this
-- one; None if there is nobody to yield to
abbrev pub heir : Manager → Option SeenManager
heir m = heir_of (info_of m.standing) m.seen

-- the way of a HANDOVER to the heir
abbrev pub heir_way : Manager → Option Way
heir_way m = receiver_way m (heir m)

-- why a manager does not yield to its heir
abbrev pub yield_fault : Manager → Option ManagerFault
yield_fault m = handing_fault m (heir m)

-- the manager after its state has moved by `handover_move` and a HANDOVER to the heir was queued
abbrev pub after_yield : Manager → Manager
after_yield m = handed_to m (heir_way m)

-- discovering anew ------------------------------------------------------------------------------

-- why a manager does not discover anew: it is not standby; None if it may
abbrev pub rediscover_fault : Manager → Option ManagerFault
rediscover_fault m = if is_in Standby m.standing then None else Some fault.NotStandby

-- the manager after it left Standby as if three polls in a row had been lost
abbrev pub after_rediscover : Manager → Manager
after_rediscover m = record m { standing = moved_by event.PollsUnanswered m.standing }

-- ends of handovers ------------------------------------------------------------------------------

-- whether the request `p` has the modifier of a HANDOVER
abbrev pub is_handover : Pending → Bool
is_handover p = p.modifier == modifier_of_control control.Handover

-- whether the manager `s` moves as ACKNOWLEDGE would move it when the request `p` ends: its conduct is live, `p` has
-- the modifier of a HANDOVER, and `answer` is the status 0. A timeout has the status None
abbrev pub is_relieved : Standing → Pending → Option ℕ → Bool
is_relieved s p answer = is_live s.conduct && (is_handover p && is_done_by answer)

-- the standing `s` after a control was answered or timed out: it moves as ACKNOWLEDGE would move it if `is_relieved`,
-- and is else unchanged
abbrev pub after_control_end : Bool → Standing → Standing
after_control_end is_relieved s =
    if is_relieved then moved_by (event.Control (modifier_of_control control.Acknowledge)) s else s
