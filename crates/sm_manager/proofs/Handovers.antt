-- A handover leaves a master behind.
use Rattle.std.proofs.Common.{◌≡◌, ◌⊎◌, inl, inr, Bool, true, false, refl, ap, ◌∙◌}
use Rattle.std.proofs.lemmas.Bool.{eqb-true}
use Rattle.std.specs.Prelude.{◌&&◌, ◌==◌, Some}
use Rattle.smp_bytes.specs.Header.{done}
use Rattle.sm_state.specs.declared.control.Control.TheVariants as control
use Rattle.sm_state.specs.declared.event.Event.TheVariants as event
use Rattle.sm_state.specs.declared.standing.Standing.{Standing}
use Rattle.sm_state.specs.declared.state.SmState.TheVariants.{Master}
use Rattle.sm_state.specs.Conduct.{is_live}
use Rattle.sm_state.specs.Control.{control_of_modifier}
use Rattle.sm_state.specs.Transitions.{status_of}
use Rattle.sm_state.proofs.Moves.{handovers_are_taken}
use Rattle.sm_manager.specs.HandoverLaws.{HandoversLeaveAMaster, move_of}
use Rattle.sm_manager.specs.Election.{after_control_end, is_handover}

none_of_three : (a b : Bool) → (a && (b && false)) ≡ false
none_of_three true true = refl
none_of_three true false = refl
none_of_three false b = refl

pub handovers_leave_a_master : HandoversLeaveAMaster
handovers_leave_a_master own other p master hands = by_status (status_of (move_of other p) == done) refl
  where
    is_control : control_of_modifier p.modifier ≡ Some control.Handover
    is_control = ap control_of_modifier (eqb-true p.modifier 1 hands)

    after : Bool → Standing
    after answered = after_control_end (is_live own.conduct && (is_handover p && answered)) own

    by_status : (b : Bool) → (status_of (move_of other p) == done) ≡ b
        → ((move_of other p).state ≡ Master) ⊎ ((after (status_of (move_of other p) == done)).state ≡ Master)
    by_status true e =
        inl (handovers_are_taken other.conduct other.state (event.Control p.modifier) (p.modifier, refl, is_control) (eqb-true _ _ e))
    by_status false e =
        inr (ap (λ (b : Bool). (after b).state) e
        ∙ ap (λ (b : Bool). (after_control_end b own).state) (none_of_three (is_live own.conduct) (is_handover p)) ∙ master)
