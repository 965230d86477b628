-- Laws of the moves of managers between states.
use Rattle.std.specs.Prelude.{◌≡◌, ◌⊎◌, ℕ, Some, None}
use Rattle.sm_state.specs.declared.conduct.Conduct.{Conduct}
use Rattle.sm_state.specs.declared.control.Control.{Control}
use Rattle.sm_state.specs.declared.control.Control.TheVariants as control
use Rattle.sm_state.specs.declared.event.Event.{Event}
use Rattle.sm_state.specs.declared.event.Event.TheVariants as event
use Rattle.sm_state.specs.declared.event.Message.TheVariants as message
use Rattle.sm_state.specs.declared.state.SmState.{SmState}
use Rattle.sm_state.specs.declared.state.SmState.TheVariants.{NotActive, Discovering, Standby, Master}
use Rattle.sm_state.specs.Control.{control_of_modifier}
use Rattle.sm_state.specs.State.{number_of_state, state_of_number}
use Rattle.smp_bytes.specs.Header.{done}
use Rattle.sm_state.specs.Transitions.{status_of, stepped}

-- the event `e` is the control `which`
abbrev pub Is : Control → Event → Type 0
Is which e = (modifier : ℕ) × (e ≡ event.Control modifier) × (control_of_modifier modifier ≡ Some which)

-- the table of states has a row for the event `e` in this state, other than the row for a late ACKNOWLEDGE: `e`
-- changes the state, or makes the manager send a message
abbrev pub IsNamed : SmState → Event → Type 0
IsNamed Discovering e = (e ≡ event.Outranked) ⊎ (e ≡ event.Unrivalled)
IsNamed Standby e =
    Is control.Handover e ⊎ (Is control.Disable e ⊎ (Is control.Discover e ⊎ (e ≡ event.PollsUnanswered)))
IsNamed NotActive e = Is control.Standby e
IsNamed Master e =
    Is control.Handover e ⊎ (Is control.Acknowledge e ⊎ (Is control.Discover e ⊎ (e ≡ event.HandoverWanted)))

-- under either conduct, an event that is not named for a state (`IsNamed`) does not change this state, and the
-- manager sends nothing
abbrev pub NothingElseMoves : Type 0
NothingElseMoves =
    (conduct : Conduct) (state : SmState) (e : Event) → (IsNamed state e → ⊥)
    → ((stepped conduct state e).state ≡ state) × ((stepped conduct state e).message ≡ None)

-- a master leaves its state only by ACKNOWLEDGE, for Standby, or by DISCOVER, for Discovering
abbrev pub MastersStay : Type 0
MastersStay =
    (conduct : Conduct) (e : Event) → ((stepped conduct Master e).state ≡ Master → ⊥)
    → (Is control.Acknowledge e × ((stepped conduct Master e).state ≡ Standby))
    ⊎ (Is control.Discover e × ((stepped conduct Master e).state ≡ Discovering))

-- a manager sends ACKNOWLEDGE only in response to a HANDOVER, and is then master
abbrev pub OthersAreTold : Type 0
OthersAreTold =
    (conduct : Conduct) (state : SmState) (e : Event) → (stepped conduct state e).message ≡ Some message.Acknowledge
    → Is control.Handover e × ((stepped conduct state e).state ≡ Master)

-- a manager that answers a HANDOVER with status 0 is then master
abbrev pub HandoversAreTaken : Type 0
HandoversAreTaken =
    (conduct : Conduct) (state : SmState) (e : Event) → Is control.Handover e → status_of (stepped conduct state e) ≡ done
    → (stepped conduct state e).state ≡ Master

-- the number of a manager's state is read as that state
abbrev pub StatesAreNumbered : Type 0
StatesAreNumbered = (state : SmState) → state_of_number (number_of_state state) ≡ Some state
