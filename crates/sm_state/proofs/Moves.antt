-- What managers do about events, in words.
use Rattle.std.proofs.Common.{◌≡◌, ℕ, inl, inr, refl, sym, ap, ◌∙◌}
use Rattle.std.specs.Prelude.{◌⊎◌, Option, Some, None}
use Rattle.sm_state.specs.declared.conduct.Conduct.{Conduct}
use Rattle.sm_state.specs.declared.conduct.Conduct.TheVariants.{Plain, Live}
use Rattle.sm_state.specs.declared.control.Control.{Control}
use Rattle.sm_state.specs.declared.control.Control.TheVariants as control
use Rattle.sm_state.specs.declared.event.Event.TheVariants as event
use Rattle.sm_state.specs.declared.event.Message.TheVariants as message
use Rattle.sm_state.specs.declared.state.SmState.{SmState}
use Rattle.sm_state.specs.declared.state.SmState.TheVariants.{NotActive, Discovering, Standby, Master}
use Rattle.smp_bytes.specs.Header.{done}
use Rattle.sm_state.specs.Control.{control_of_modifier}
use Rattle.sm_state.specs.StateLaws.{HandoversAreTaken, Is, IsNamed, MastersStay, NothingElseMoves, OthersAreTold, StatesAreNumbered}
use Rattle.sm_state.specs.Transitions.{acknowledged_late, after_control, status_of}

-- the control of a modifier, as the table reads it
module _ (conduct : Conduct) (modifier : ℕ) where
  is : (which : Control) → control_of_modifier modifier ≡ Some which → Is which (event.Control modifier)
  is which e = (modifier, refl, e)

  unmoved : (state : SmState) (found : Option Control) → control_of_modifier modifier ≡ found
      → (IsNamed state (event.Control modifier) → ⊥)
      → ((after_control conduct state found).state ≡ state) × ((after_control conduct state found).message ≡ None)
  unmoved Standby (Some control.Handover) e named = absurd (named (inl (is control.Handover e)))
  unmoved Standby (Some control.Disable) e named = absurd (named (inr (inl (is control.Disable e))))
  unmoved Standby (Some control.Discover) e named = absurd (named (inr (inr (inl (is control.Discover e)))))
  unmoved Standby (Some control.Acknowledge) e named = stays conduct
    where
      stays : (c : Conduct) → ((acknowledged_late c).state ≡ Standby) × ((acknowledged_late c).message ≡ None)
      stays Plain = (refl, refl)
      stays (Live key) = (refl, refl)
  unmoved Standby (Some control.Standby) e named = (refl, refl)
  unmoved Standby None e named = (refl, refl)
  unmoved NotActive (Some control.Standby) e named = absurd (named (is control.Standby e))
  unmoved NotActive (Some control.Handover) e named = (refl, refl)
  unmoved NotActive (Some control.Acknowledge) e named = (refl, refl)
  unmoved NotActive (Some control.Disable) e named = (refl, refl)
  unmoved NotActive (Some control.Discover) e named = (refl, refl)
  unmoved NotActive None e named = (refl, refl)
  unmoved Master (Some control.Handover) e named = absurd (named (inl (is control.Handover e)))
  unmoved Master (Some control.Acknowledge) e named = absurd (named (inr (inl (is control.Acknowledge e))))
  unmoved Master (Some control.Discover) e named = absurd (named (inr (inr (inl (is control.Discover e)))))
  unmoved Master (Some control.Disable) e named = (refl, refl)
  unmoved Master (Some control.Standby) e named = (refl, refl)
  unmoved Master None e named = (refl, refl)
  unmoved Discovering (Some control.Handover) e named = (refl, refl)
  unmoved Discovering (Some control.Acknowledge) e named = (refl, refl)
  unmoved Discovering (Some control.Disable) e named = (refl, refl)
  unmoved Discovering (Some control.Standby) e named = (refl, refl)
  unmoved Discovering (Some control.Discover) e named = (refl, refl)
  unmoved Discovering None e named = (refl, refl)

  steps_down : (found : Option Control) → control_of_modifier modifier ≡ found → ((after_control conduct Master found).state ≡ Master → ⊥)
      → (Is control.Acknowledge (event.Control modifier) × ((after_control conduct Master found).state ≡ Standby))
      ⊎ (Is control.Discover (event.Control modifier) × ((after_control conduct Master found).state ≡ Discovering))
  steps_down (Some control.Acknowledge) e leaves = inl (is control.Acknowledge e, refl)
  steps_down (Some control.Discover) e leaves = inr (is control.Discover e, refl)
  steps_down (Some control.Handover) e leaves = absurd (leaves refl)
  steps_down (Some control.Disable) e leaves = absurd (leaves refl)
  steps_down (Some control.Standby) e leaves = absurd (leaves refl)
  steps_down None e leaves = absurd (leaves refl)

  told : (state : SmState) (found : Option Control) → control_of_modifier modifier ≡ found
      → (after_control conduct state found).message ≡ Some message.Acknowledge
      → Is control.Handover (event.Control modifier) × ((after_control conduct state found).state ≡ Master)
  told Standby (Some control.Handover) e sends = (is control.Handover e, refl)
  told Master (Some control.Handover) e sends = (is control.Handover e, refl)
  told Standby (Some control.Disable) e sends = absurd (cc)
  told Standby (Some control.Discover) e sends = absurd (cc)
  told Standby (Some control.Acknowledge) e sends = none conduct sends
    where
      none : (c : Conduct) → (acknowledged_late c).message ≡ Some message.Acknowledge → Is control.Handover (event.Control modifier) × ((acknowledged_late conduct).state ≡ Master)
      none Plain sends = absurd (cc)
      none (Live key) sends = absurd (cc)
  told Standby (Some control.Standby) e sends = absurd (cc)
  told Standby None e sends = absurd (cc)
  told NotActive (Some control.Standby) e sends = absurd (cc)
  told NotActive (Some control.Handover) e sends = absurd (cc)
  told NotActive (Some control.Acknowledge) e sends = absurd (cc)
  told NotActive (Some control.Disable) e sends = absurd (cc)
  told NotActive (Some control.Discover) e sends = absurd (cc)
  told NotActive None e sends = absurd (cc)
  told Master (Some control.Acknowledge) e sends = absurd (cc)
  told Master (Some control.Discover) e sends = absurd (cc)
  told Master (Some control.Disable) e sends = absurd (cc)
  told Master (Some control.Standby) e sends = absurd (cc)
  told Master None e sends = absurd (cc)
  told Discovering (Some control.Handover) e sends = absurd (cc)
  told Discovering (Some control.Acknowledge) e sends = absurd (cc)
  told Discovering (Some control.Disable) e sends = absurd (cc)
  told Discovering (Some control.Standby) e sends = absurd (cc)
  told Discovering (Some control.Discover) e sends = absurd (cc)
  told Discovering None e sends = absurd (cc)

pub nothing_else_moves : NothingElseMoves
nothing_else_moves conduct state (event.Control modifier) named = unmoved conduct modifier state (control_of_modifier modifier) refl named
nothing_else_moves conduct Discovering event.Outranked named = absurd (named (inl refl))
nothing_else_moves conduct Discovering event.Unrivalled named = absurd (named (inr refl))
nothing_else_moves conduct Discovering event.PollsUnanswered named = (refl, refl)
nothing_else_moves conduct Discovering event.HandoverWanted named = (refl, refl)
nothing_else_moves conduct Standby event.Outranked named = (refl, refl)
nothing_else_moves conduct Standby event.Unrivalled named = (refl, refl)
nothing_else_moves conduct Standby event.PollsUnanswered named = absurd (named (inr (inr (inr refl))))
nothing_else_moves conduct Standby event.HandoverWanted named = (refl, refl)
nothing_else_moves conduct NotActive event.Outranked named = (refl, refl)
nothing_else_moves conduct NotActive event.Unrivalled named = (refl, refl)
nothing_else_moves conduct NotActive event.PollsUnanswered named = (refl, refl)
nothing_else_moves conduct NotActive event.HandoverWanted named = (refl, refl)
nothing_else_moves conduct Master event.Outranked named = (refl, refl)
nothing_else_moves conduct Master event.Unrivalled named = (refl, refl)
nothing_else_moves conduct Master event.PollsUnanswered named = (refl, refl)
nothing_else_moves conduct Master event.HandoverWanted named = absurd (named (inr (inr (inr refl))))

pub masters_stay : MastersStay
masters_stay conduct (event.Control modifier) leaves = steps_down conduct modifier (control_of_modifier modifier) refl leaves
masters_stay conduct event.Outranked leaves = absurd (leaves refl)
masters_stay conduct event.Unrivalled leaves = absurd (leaves refl)
masters_stay conduct event.PollsUnanswered leaves = absurd (leaves refl)
masters_stay conduct event.HandoverWanted leaves = absurd (leaves refl)

pub others_are_told : OthersAreTold
others_are_told conduct state (event.Control modifier) sends = told conduct modifier state (control_of_modifier modifier) refl sends
others_are_told conduct Discovering event.Outranked sends = absurd (cc)
others_are_told conduct Discovering event.Unrivalled sends = absurd (cc)
others_are_told conduct Discovering event.PollsUnanswered sends = absurd (cc)
others_are_told conduct Discovering event.HandoverWanted sends = absurd (cc)
others_are_told conduct Standby event.Outranked sends = absurd (cc)
others_are_told conduct Standby event.Unrivalled sends = absurd (cc)
others_are_told conduct Standby event.PollsUnanswered sends = absurd (cc)
others_are_told conduct Standby event.HandoverWanted sends = absurd (cc)
others_are_told conduct NotActive event.Outranked sends = absurd (cc)
others_are_told conduct NotActive event.Unrivalled sends = absurd (cc)
others_are_told conduct NotActive event.PollsUnanswered sends = absurd (cc)
others_are_told conduct NotActive event.HandoverWanted sends = absurd (cc)
others_are_told conduct Master event.Outranked sends = absurd (cc)
others_are_told conduct Master event.Unrivalled sends = absurd (cc)
others_are_told conduct Master event.PollsUnanswered sends = absurd (cc)
others_are_told conduct Master event.HandoverWanted sends = absurd (cc)

-- a handover is taken by a standby and a master, and refused by others
taken : (conduct : Conduct) (state : SmState) (found : Option Control) → found ≡ Some control.Handover
    → status_of (after_control conduct state found) ≡ done → (after_control conduct state found).state ≡ Master
taken conduct Standby (Some control.Handover) same answers = refl
taken conduct Master (Some control.Handover) same answers = refl
taken conduct NotActive (Some control.Handover) same answers = absurd (cc)
taken conduct Discovering (Some control.Handover) same answers = absurd (cc)
taken conduct state (Some control.Acknowledge) same answers = absurd (cc)
taken conduct state (Some control.Disable) same answers = absurd (cc)
taken conduct state (Some control.Standby) same answers = absurd (cc)
taken conduct state (Some control.Discover) same answers = absurd (cc)
taken conduct state None same answers = absurd (cc)

pub handovers_are_taken : HandoversAreTaken
handovers_are_taken conduct state (event.Control modifier) is answers =
    let same : is.0 ≡ modifier = cc in
    taken conduct state (control_of_modifier modifier) (ap control_of_modifier (sym same) ∙ is.2) answers
handovers_are_taken conduct state event.Outranked is answers = absurd (cc)
handovers_are_taken conduct state event.Unrivalled is answers = absurd (cc)
handovers_are_taken conduct state event.PollsUnanswered is answers = absurd (cc)
handovers_are_taken conduct state event.HandoverWanted is answers = absurd (cc)

pub states_are_numbered : StatesAreNumbered
states_are_numbered NotActive = refl
states_are_numbered Discovering = refl
states_are_numbered Standby = refl
states_are_numbered Master = refl
