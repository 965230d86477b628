-- What a packet that reaches a manager does, besides the work that follows. InfiniBand Architecture Specification,
-- Volume 1: subnet management, traps (128, 144), SMInfo (HANDOVER).
use Rattle.std.specs.Prelude.{ℕ, ◌^◌, Bool, ◌&&◌, ◌||◌, not, List, nat_lt, ◌==◌}
use Rattle.std.specs.Prelude.{if◌then◌else◌, Option, Some, None, is_none}
use Rattle.smp_bytes.specs.Field.{Field, bytes_in, number_in}
use Rattle.smp_bytes.specs.Header.{set, sm_info}
use Rattle.smp_bytes.specs.Packet.{attribute_data, attribute_id, attribute_modifier, fault_of}
use Rattle.smp_bytes.specs.Packet.{is_response, method, transaction_id}
use Rattle.smp_bytes.specs.declared.smp_fault.SmpFault.{SmpFault}
use Rattle.attr_codec.specs.SmInfo.{sm_info_in}
use Rattle.sm_state.specs.State.{number_of_state}
use Rattle.sm_state.specs.declared.state.SmState.TheVariants.{Master}
use Rattle.sm_manager.specs.CallLists.{Call, after_call}
use Rattle.sm_manager.specs.Packets.{after_packet}
use Rattle.sm_manager.specs.Traps.{trap}
use Rattle.sm_manager.specs.declared.outgoing.Outgoing.{Outgoing}
use Rattle.sm_policy.specs.Policy.{is_master, polled, taken_over, wanting}
use Rattle.sm_policy.specs.declared.policy.Policy.{Policy}
use Rattle.request_window.specs.Window.{after_answer}
use Rattle.acting_manager.specs.Acting.{Acting, noted}
use Rattle.acting_manager.specs.Reads.{after_read}
use Rattle.acting_manager.specs.declared.note.Note.TheVariants.{GivenUp}

-- giving up --------------------------------------------------------------------------------------

-- the manager gives up a request
abbrev pub timed_out : Outgoing → Acting → Acting
timed_out request a =
    record a { manager = after_call a.manager (Call.Timeout (number_in transaction_id request.packet)) }

-- the manager gives up a request that has no answer, or one that it refuses, and this is noted
abbrev pub given_up : Outgoing → Acting → Acting
given_up request a = noted (GivenUp request.packet) (timed_out request a)

-- answers ----------------------------------------------------------------------------------------

-- whether `packet`, the answer to a request, answers a poll: sweeps number their requests from 2^32 on, and controls
-- have a modifier
abbrev pub answers_poll : List ℕ → Bool
answers_poll packet =
    number_in attribute_id packet == sm_info
    && (nat_lt (number_in transaction_id packet) (2 ^ 32) && number_in attribute_modifier packet == 0)

-- whether SMInfo in `packet` has the state Master
abbrev pub says_master : List ℕ → Bool
says_master packet = (sm_info_in (bytes_in attribute_data packet)).state == number_of_state Master

-- the policy after an answer that the manager takes
abbrev pub policy_after : List ℕ → Policy → Policy
policy_after packet p = if answers_poll packet then polled (says_master packet) p else p

-- the manager has taken the answer `packet`
abbrev pub told : List ℕ → Acting → Acting
told packet a = record a { policy = policy_after packet a.policy; reads = after_read packet a.reads }

-- the answer `packet` to `request` was handed to the manager, which takes it or not: if the manager refuses it, as for
-- a status other than 0, the request is given up
abbrev pub handed_in : Outgoing → List ℕ → Bool → Acting → Acting
handed_in request packet is_taken a = if is_taken then told packet a else given_up request a

-- `packet` answers the given request, which was out. An answer to none is dropped: it came late, or twice
abbrev pub answered : Option Outgoing → List ℕ → Option ℕ → Acting → Acting
answered None packet from a = a
answered (Some request) packet from a =
    handed_in request packet (is_none (after_packet a.manager packet from).fault)
    (record a { manager = after_call a.manager (Call.Packet packet from) })

-- a response came
abbrev pub responded : List ℕ → Option ℕ → Acting → Acting
responded packet from a =
    answered (after_answer packet a.window).request packet from
    (record a { window = (after_answer packet a.window).window })

-- requests and traps ------------------------------------------------------------------------------

-- the number of the trap in a Notice
abbrev pub trap_number : Field
trap_number = record { at = 68; len = 2 }

-- the trap of a switch one of whose ports has changed its state
abbrev pub link_state_changed : ℕ
link_state_changed = 128

-- the trap of a port whose capabilities have changed, as when a manager comes there
abbrev pub capabilities_changed : ℕ
capabilities_changed = 144

-- whether `packet` is a trap
abbrev pub is_trap : List ℕ → Bool
is_trap packet = number_in method packet == trap

-- whether `packet` is a trap that tells of a change of the subnet
abbrev pub tells_change : List ℕ → Bool
tells_change packet =
    is_trap packet
    && (number_in trap_number packet == link_state_changed || number_in trap_number packet == capabilities_changed)

-- the modifier of the control HANDOVER
abbrev pub handover : ℕ
handover = 1

-- whether `packet` is a HANDOVER
abbrev pub hands_over : List ℕ → Bool
hands_over packet =
    number_in method packet == set
    && (number_in attribute_id packet == sm_info && number_in attribute_modifier packet == handover)

-- the policy after a packet that is no response: a trap that tells of a change asks for a sweep. Who hands over to a
-- master was a master too, and wrote
abbrev pub policy_asked : List ℕ → Bool → Policy → Policy
policy_asked packet is_master p =
    if tells_change packet then wanting p else if hands_over packet && is_master then taken_over p else p

-- whether a packet that is no response is handed to the manager: a trap only to a master
abbrev pub is_handed : List ℕ → Bool → Bool
is_handed packet is_master = not (is_trap packet) || is_master

-- a packet came that is no response
abbrev pub requested : List ℕ → Option ℕ → Acting → Acting
requested packet from a =
    record a {
      policy = policy_asked packet (is_master a.manager.standing.state) a.policy;
      manager =
          if is_handed packet (is_master a.manager.standing.state) then after_call a.manager (Call.Packet packet from)
          else a.manager;
    }

-- any packet --------------------------------------------------------------------------------------

-- a packet came that is no response. One that leaves takes no HANDOVER: nobody would be master
abbrev pub asked : List ℕ → Option ℕ → Acting → Acting
asked packet from a = if a.is_leaving && hands_over packet then a else requested packet from a

-- a packet came
abbrev pub heard_packet : List ℕ → Option ℕ → Acting → Acting
heard_packet packet from a = if is_response packet then responded packet from a else asked packet from a

-- the bytes `packet` came; the given fault is the one that they have as a packet. Bytes with a fault are dropped
abbrev pub heard_by : List ℕ → Option ℕ → Option SmpFault → Acting → Acting
heard_by packet from (Some fault) a = a
heard_by packet from None a = heard_packet packet from a

-- the bytes `packet` came from the LID `from`
abbrev pub heard : List ℕ → Option ℕ → Acting → Acting
heard packet from a = heard_by packet from (fault_of packet) a
