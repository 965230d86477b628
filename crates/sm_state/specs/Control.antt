-- The controls of one subnet manager by another, by their attribute modifiers.
-- InfiniBand Architecture Specification, Volume 1: subnet management, SMInfo.
use Rattle.std.specs.Prelude.{ℕ, List, [], ◌∷◌, find, ◌==◌, Option}
use Rattle.sm_state.specs.declared.control.Control.{Control}
use Rattle.sm_state.specs.declared.control.Control.TheVariants.{Handover, Acknowledge, Disable, Standby, Discover}
use Rattle.sm_state.specs.declared.event.Message.{Message}
use Rattle.sm_state.specs.declared.event.Message.TheVariants as message

-- the attribute modifier of a control
abbrev pub modifier_of_control : Control → ℕ
modifier_of_control Handover = 1
modifier_of_control Acknowledge = 2
modifier_of_control Disable = 3
modifier_of_control Standby = 4
modifier_of_control Discover = 5

-- all controls, in ascending order of modifier
abbrev pub controls : List Control
controls = Handover ∷ Acknowledge ∷ Disable ∷ Standby ∷ Discover ∷ []

-- the control with the attribute modifier `modifier`; None if `modifier` is reserved
abbrev pub control_of_modifier : ℕ → Option Control
control_of_modifier modifier = find (λ control. modifier == modifier_of_control control) controls

-- the control as which a message is sent
abbrev pub control_of_message : Message → Control
control_of_message message.Handover = Handover
control_of_message message.Acknowledge = Acknowledge
