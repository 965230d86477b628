-- How a subnet manager moves between its states: a case for each row of the table.
-- InfiniBand Architecture Specification, Volume 1: subnet management, SMInfo states.
use Rattle.std.specs.Prelude.{ℕ, true, false, Option, Some, None, if◌then◌else◌}
use Rattle.smp_bytes.specs.Header.{done, invalid_field}
use Rattle.sm_state.specs.declared.conduct.Conduct.{Conduct}
use Rattle.sm_state.specs.declared.conduct.Conduct.TheVariants.{Plain, Live}
use Rattle.sm_state.specs.declared.control.Control.{Control}
use Rattle.sm_state.specs.declared.control.Control.TheVariants as control
use Rattle.sm_state.specs.declared.event.Event.{Event}
use Rattle.sm_state.specs.declared.event.Event.TheVariants as event
use Rattle.sm_state.specs.declared.event.Message.{Message}
use Rattle.sm_state.specs.declared.event.Message.TheVariants as message
use Rattle.sm_state.specs.declared.state.SmState.{SmState}
use Rattle.sm_state.specs.declared.state.SmState.TheVariants.{NotActive, Discovering, Standby, Master}
use Rattle.sm_state.specs.declared.transition.Transition.{Transition}
use Rattle.sm_state.specs.Control.{control_of_modifier}

-- the move to `state` that is not refused and sends the message `sends`, or nothing if that is None
abbrev pub to : SmState → Option Message → Transition
to state sends = record { state = state; message = sends; is_refused = false }

-- the move for a control that is refused in `state`: the state stays the same, and nothing is sent
abbrev pub refused : SmState → Transition
refused state = record { state = state; message = None; is_refused = true }

-- the move that ACKNOWLEDGE causes in a standby; the state stays the same. The plain conduct refuses the control. The
-- live conduct does not, since the answer to the HANDOVER that the manager sent may have made it a standby already
abbrev pub acknowledged_late : Conduct → Transition
acknowledged_late Plain = refused Standby
acknowledged_late (Live key) = to Standby None

-- the move that a control causes in a manager that is in the given state; None stands for a control whose modifier is
-- reserved
abbrev pub after_control : Conduct → SmState → Option Control → Transition
after_control conduct Standby (Some control.Handover) = to Master (Some message.Acknowledge)
after_control conduct Standby (Some control.Acknowledge) = acknowledged_late conduct
after_control conduct Standby (Some control.Disable) = to NotActive None
after_control conduct Standby (Some control.Discover) = to Discovering None
after_control conduct NotActive (Some control.Standby) = to Standby None
after_control conduct Master (Some control.Acknowledge) = to Standby None
after_control conduct Master (Some control.Handover) = to Master (Some message.Acknowledge)
after_control conduct Master (Some control.Discover) = to Discovering None
after_control conduct state other = refused state

-- the move that an event causes in a manager that is in the given state, as the table of states says
abbrev pub stepped : Conduct → SmState → Event → Transition
stepped conduct state (event.Control modifier) = after_control conduct state (control_of_modifier modifier)
stepped conduct Discovering event.Outranked = to Standby None
stepped conduct Discovering event.Unrivalled = to Master None
stepped conduct Standby event.PollsUnanswered = to Discovering None
stepped conduct Master event.HandoverWanted = to Master (Some message.Handover)
stepped conduct state other = to state None

-- the status of the answer to a control: the status for an invalid field if the move is refused, else `done` (0)
abbrev pub status_of : Transition → ℕ
status_of move = if move.is_refused then invalid_field else done
