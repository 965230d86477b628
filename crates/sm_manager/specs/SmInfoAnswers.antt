-- What a manager answers to a request for its SMInfo, and to a control. InfiniBand Architecture Specification, Volume
-- 1: subnet management, SMInfo; management methods and status.
use Rattle.std.specs.Prelude.{ℕ, Bool, ◌&&◌, ◌||◌, not, List, [], ◌∷◌, ◌++◌, ◌==◌, if◌then◌else◌}
use Rattle.std.specs.Prelude.{Option, None, option_map}
use Rattle.smp_bytes.specs.Field.{bytes_in, number_in}
use Rattle.smp_bytes.specs.Header.{get, set, done, invalid_field, method_not_supported}
use Rattle.smp_bytes.specs.Packet.{method, attribute_modifier, attribute_data, is_directed}
use Rattle.smp_bytes.specs.Requests.{answer_packet}
use Rattle.attr_codec.specs.SmInfo.{sm_info_bytes}
use Rattle.sm_state.specs.declared.event.Event.TheVariants as event
use Rattle.sm_state.specs.declared.transition.Transition.{Transition}
use Rattle.sm_state.specs.Transitions.{status_of, stepped}
use Rattle.sm_manager.specs.declared.outgoing.Outgoing.{Outgoing}
use Rattle.sm_manager.specs.declared.way.Way.{Way}
use Rattle.sm_manager.specs.declared.way.Way.TheVariants.{ToLid}
use Rattle.sm_state.specs.declared.standing.Standing.{Standing}
use Rattle.sm_manager.specs.Election.{after_message}
use Rattle.sm_manager.specs.Manager.{Manager}
use Rattle.sm_state.specs.Conduct.{is_live}
use Rattle.sm_state.specs.Standing.{after_request_heard, info_of, moved_to}

-- answers ---------------------------------------------------------------------------------------

-- the data of an answer: the manager's SMInfo if the status is done, else the data of the request
abbrev pub answer_data : Standing → List ℕ → ℕ → List ℕ
answer_data s packet status = if status == done then sm_info_bytes (info_of s) else bytes_in attribute_data packet

-- the answer to the request `packet`, to be sent back along the path of the request if the request is directed, else
-- to `from`, the LID of the sender
abbrev pub answer_out : Standing → List ℕ → Option ℕ → ℕ → Outgoing
answer_out s packet from status =
    record {
      packet = answer_packet packet status (answer_data s packet status);
      to =
          if is_directed packet then None else from;
    }

-- the manager once the answer to the request `packet` is queued
abbrev pub answering : Manager → List ℕ → Option ℕ → ℕ → Manager
answering m packet from status = record m { outgoing = m.outgoing ++ answer_out m.standing packet from status ∷ [] }

-- the manager after it counted a request for SMInfo as activity, before it answers the request; unchanged unless the
-- manager's conduct is live
abbrev pub request_counted : Manager → Manager
request_counted m = record m { standing = after_request_heard m.standing }

-- controls ----------------------------------------------------------------------------------------

-- whether `packet`, a request for SMInfo, may be a control: it is a Set, and it came by LIDs or the conduct is live
abbrev pub is_control : Standing → List ℕ → Bool
is_control s packet = number_in method packet == set && (is_live s.conduct || not (is_directed packet))

-- the way of the acknowledgement of a control: to the LID of its sender; None for a control along a directed route,
-- which is not acknowledged
abbrev pub acknowledged_by : List ℕ → Option ℕ → Option Way
acknowledged_by packet from = if is_directed packet then None else option_map ToLid from

-- the manager after its state has moved by `move` and the answer was queued. The message of `move` is queued after
-- the answer, if `move` has one and the packet came by LIDs
abbrev pub moved_on : Manager → List ℕ → Option ℕ → Transition → Manager
moved_on m packet from move =
    after_message (answering (record m { standing = moved_to move.state m.standing }) packet from (status_of move))
    (acknowledged_by packet from) move.message

-- the manager after the control in `packet` has moved its state and was answered
abbrev pub controlled : Manager → List ℕ → Option ℕ → Manager
controlled m packet from =
    moved_on (request_counted m) packet from
    (stepped m.standing.conduct m.standing.state (event.Control (number_in attribute_modifier packet)))

-- any request for SMInfo --------------------------------------------------------------------------

-- the status of the answer to a request for SMInfo that is not a control: 0 for a Get, the one for an invalid field
-- for a Set, and else the one for a method that is not supported
abbrev pub status_for : List ℕ → ℕ
status_for packet =
    if number_in method packet == get then done
    else if number_in method packet == set then invalid_field
    else method_not_supported

-- the manager once a request for SMInfo that is not a control is answered
abbrev pub replying : Manager → List ℕ → Option ℕ → Manager
replying m packet from = answering (request_counted m) packet from (status_for packet)

-- the manager after it answered a request for SMInfo and, if the request is a control, obeyed or refused it
abbrev pub served : Manager → List ℕ → Option ℕ → Manager
served m packet from =
    if is_control m.standing packet then controlled m packet from else replying m packet from
