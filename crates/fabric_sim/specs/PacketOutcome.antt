-- What becomes of a packet in flight when it is delivered, where it waits: its outcome. InfiniBand Architecture
-- Specification, Volume 1: subnet management, directed routes; switches, unicast forwarding.
use Rattle.std.specs.Prelude.{ℕ, Bool, ◌&&◌, ◌||◌, not, List, ◌==◌, if◌then◌else◌, is_some, is_none}
use Rattle.std.specs.Option.{option_map_or}
use Rattle.smp_bytes.specs.Header.{sm_info}
use Rattle.smp_bytes.specs.Field.{number_in}
use Rattle.smp_bytes.specs.Packet.{attribute_id, fault_of, is_directed, is_response, method, transaction_id}
use Rattle.fabric_model.specs.declared.cable.NodePort.{NodePort}
use Rattle.fabric_model.specs.declared.course.Course.{Course}
use Rattle.fabric_model.specs.declared.course.Course.TheVariants as course_is
use Rattle.fabric_model.specs.Fabric.{is_switch_at}
use Rattle.fabric_model.specs.Forwarding.{course}
use Rattle.dr_forward.specs.declared.verdict.Verdict.{Verdict}
use Rattle.dr_forward.specs.declared.verdict.Verdict.TheVariants.{Out, ToAgent, ToManager, Discard}
use Rattle.dr_forward.specs.declared.verdict.DiscardReason.{DiscardReason}
use Rattle.dr_forward.specs.declared.verdict.DiscardReason.TheVariants as off
use Rattle.dr_forward.specs.declared.here.Here.{Here}
use Rattle.dr_forward.specs.DirectedStep.{step}
use Rattle.fabric_sim.specs.declared.packet.Packet.{Packet}
use Rattle.fabric_sim.specs.declared.flight.Whereabouts.{Whereabouts}
use Rattle.fabric_sim.specs.declared.flight.Whereabouts.TheVariants.{Arrived}
use Rattle.fabric_sim.specs.declared.action.Action.{Action}
use Rattle.fabric_sim.specs.declared.action.Action.TheVariants as action_is
use Rattle.fabric_sim.specs.declared.delivered.Reason.{Reason}
use Rattle.fabric_sim.specs.declared.delivered.Reason.TheVariants.{Course as OffCourse, Transit, OutPort, Down, Unreadable, NoRoute}
use Rattle.fabric_sim.specs.Notice.{trap, trap_repress}
use Rattle.fabric_sim.specs.Simulation.{Simulation, port_count, is_seat_at, across, fabric_of, port_of}
use Rattle.fabric_sim.specs.Simulation.{is_at_seat, is_by_wire, CanWait}

-- what becomes of a packet: it moves, and then waits at other whereabouts; the agent answers it, and the answer has
-- the given SLID and DLID; it is handed to the subnet manager; it represses the trap with the TransactionID `number`,
-- and is discarded; or it is discarded for a reason
pub data Outcome : Type 0 where
  Moves : (whereabouts : Whereabouts) → (packet : Packet) → Outcome
  Asks : (request : List ℕ) → (slid : ℕ) → (dlid : ℕ) → Outcome
  HandsUp : (packet : Packet) → Outcome
  Represses : (number : ℕ) → Outcome
  Drops : (reason : Reason) → Outcome

-- the packet with its bytes replaced by `bytes`
abbrev pub carrying : Packet → List ℕ → Packet
carrying packet bytes = record packet { bytes = bytes }

-- what becomes of a packet that leaves by the port `out`: it moves to the other end of the port's cable, or is dropped
-- if the port has no cable
abbrev pub leaving : Simulation → NodePort → Packet → Outcome
leaving s out packet = option_map_or (λ into. Moves (Arrived into) packet) (across s.peers out) (Drops Down)

-- whether the packet is a trap that is forwarded by LIDs
abbrev pub is_trap : List ℕ → Bool
is_trap bytes = number_in method bytes == trap && not (is_directed bytes)

-- whether a manager sits at the port `p`, and the packet is for this manager: its attribute is SMInfo, or it is a
-- trap that is forwarded by LIDs
abbrev pub is_for_manager : Simulation → NodePort → List ℕ → Bool
is_for_manager s p bytes = (number_in attribute_id bytes == sm_info || is_trap bytes) && is_seat_at s p

-- a packet on a directed route ---------------------------------------------------------------------

-- the node of the port `p` where a packet waits, as a step of a directed packet sees it
abbrev pub here_at : Simulation → NodePort → Here
here_at s p = record { is_switch = is_switch_at (fabric_of s) p.node; ports = port_count s p.node; arrival = p.port }

-- the reason of a delivery for which a packet is discarded, given the reason of the step of a directed packet
abbrev pub reason_of : DiscardReason → Reason
reason_of off.Course = OffCourse
reason_of off.Transit = Transit
reason_of off.OutPort = OutPort

-- what becomes of a directed packet at the agent of the port `p`: an answer is dropped, a packet for the manager is
-- handed up, and the agent answers any other packet
abbrev pub at_agent : Simulation → NodePort → Packet → Outcome
at_agent s p packet =
    if is_response packet.bytes then Drops OffCourse
    else if is_for_manager s p packet.bytes then HandsUp packet
    else Asks packet.bytes packet.slid packet.dlid

-- what becomes of a directed packet at the port `p`, given the verdict of its step
abbrev pub by_verdict : Simulation → NodePort → Packet → Verdict → Outcome
by_verdict s p packet (Out port) = leaving s (record { node = p.node; port = port }) packet
by_verdict s p packet ToAgent = at_agent s p packet
by_verdict s p packet ToManager = HandsUp packet
by_verdict s p packet (Discard reason) = Drops (reason_of reason)

-- what becomes of a directed packet at the port `p` when it takes one step on its route
abbrev pub directed_outcome : Simulation → NodePort → Packet → Outcome
directed_outcome s p packet =
    let stepped = step (here_at s p) packet.bytes in
    by_verdict s p (carrying packet stepped.packet) stepped.verdict

-- a packet that is forwarded by its DLID --------------------------------------------------------------

-- what becomes of a packet at the port `p`, where it has reached its destination: an answer or a packet for the
-- manager is handed up, and a TrapRepress represses its trap. Any other packet is answered; the answer has the
-- request's SLID and DLID exchanged
abbrev pub arrived : Simulation → NodePort → Packet → Outcome
arrived s p packet =
    if is_response packet.bytes || is_for_manager s p packet.bytes then HandsUp packet
    else if number_in method packet.bytes == trap_repress then Represses (number_in transaction_id packet.bytes)
    else Asks packet.bytes packet.dlid packet.slid

-- what becomes of a LID-routed packet at the port `p`, given its course at the node
abbrev pub by_course : Simulation → NodePort → Packet → Course → Outcome
by_course s p packet (course_is.Delivers q) = arrived s p packet
by_course s p packet (course_is.LeavesBy out) = leaving s out packet
by_course s p packet course_is.Drops = Drops NoRoute

-- what becomes of a LID-routed packet where it waits, according to its course at the node
abbrev pub lid_routed_outcome : Simulation → Whereabouts → Packet → Outcome
lid_routed_outcome s whereabouts packet =
    by_course s (port_of whereabouts) packet
    (course (fabric_of s) packet.dlid (record { at = port_of whereabouts; by_wire = is_by_wire whereabouts }))

-- any packet ------------------------------------------------------------------------------------------

-- what becomes of a packet where it waits. It is dropped if its bytes have a fault, or if it does not wait at a seat
-- and there is no cable in its port. Else it goes one step on its directed route, or is forwarded by its DLID
unfoldable pub outcome_of : Simulation → Whereabouts → Packet → Outcome
outcome_of s whereabouts packet =
    if is_some (fault_of packet.bytes) then Drops Unreadable
    else if not (is_at_seat whereabouts) && is_none (across s.peers (port_of whereabouts)) then Drops Down
    else if is_directed packet.bytes then directed_outcome s (port_of whereabouts) packet
    else lid_routed_outcome s whereabouts packet

-- the outcome for `packet` of the action of a delivery
abbrev pub outcome_by : Packet → Action → Outcome
outcome_by packet (action_is.Moves whereabouts) = Moves whereabouts packet
outcome_by packet (action_is.Asks slid dlid) = Asks packet.bytes slid dlid
outcome_by packet action_is.HandsUp = HandsUp packet
outcome_by packet action_is.Represses = Represses (number_in transaction_id packet.bytes)
outcome_by packet (action_is.Drops reason) = Drops reason

-- if the outcome is that a packet moves, the packet can wait where it moves to; true for any other outcome
abbrev pub CanFare : Simulation → Outcome → Type 0
CanFare s (Moves whereabouts packet) = CanWait s whereabouts
CanFare s (Asks request slid dlid) = Unit {0}
CanFare s (HandsUp packet) = Unit {0}
CanFare s (Represses number) = Unit {0}
CanFare s (Drops reason) = Unit {0}
