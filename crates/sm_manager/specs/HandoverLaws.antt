-- The law of handovers: one of the two managers is master afterwards.
use Rattle.std.specs.Prelude.{◌≡◌, ◌⊎◌, true, Some}
use Rattle.sm_state.specs.declared.event.Event.TheVariants as event
use Rattle.sm_state.specs.declared.standing.Standing.{Standing}
use Rattle.sm_state.specs.declared.state.SmState.TheVariants.{Master}
use Rattle.sm_state.specs.declared.transition.Transition.{Transition}
use Rattle.sm_state.specs.Transitions.{status_of, stepped}
use Rattle.sm_manager.specs.declared.pending.Pending.{Pending}
use Rattle.sm_manager.specs.Election.{after_control_end, is_handover, is_relieved}

-- the move that the control in the request `control` causes in a manager with the standing `other`
abbrev pub move_of : Standing → Pending → Transition
move_of other control = stepped other.conduct other.state (event.Control control.modifier)

-- after a master's HANDOVER was answered, the manager that took the HANDOVER is master, or the sender still is. The
-- sender has the standing `own` and the other manager `other`; the answer has the status of the move of `other`.
-- Nothing else moves either of them meanwhile
abbrev pub HandoversLeaveAMaster : Type 0
HandoversLeaveAMaster =
    (own other : Standing) (control : Pending) → own.state ≡ Master → is_handover control ≡ true
    → ((move_of other control).state ≡ Master)
    ⊎ ((after_control_end (is_relieved own control (Some (status_of (move_of other control)))) own).state ≡ Master)
