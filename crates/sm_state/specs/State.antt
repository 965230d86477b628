-- The states of a subnet manager, their numbers and their words.
-- InfiniBand Architecture Specification, Volume 1: subnet management, SMInfo (SMState).
use Rattle.std.specs.Prelude.{ℕ, List, [], ◌∷◌, codes, find, ◌==◌, Option}
use Rattle.sm_state.specs.declared.state.SmState.{SmState}
use Rattle.sm_state.specs.declared.state.SmState.TheVariants.{NotActive, Discovering, Standby, Master}

-- the number of a state in SMInfo
abbrev pub number_of_state : SmState → ℕ
number_of_state NotActive = 0
number_of_state Discovering = 1
number_of_state Standby = 2
number_of_state Master = 3

-- all states, in ascending order of number
abbrev pub states : List SmState
states = NotActive ∷ Discovering ∷ Standby ∷ Master ∷ []

-- the state with the number `number`; None if `number` is reserved
abbrev pub state_of_number : ℕ → Option SmState
state_of_number number = find (λ state. number == number_of_state state) states

-- the word for a state
abbrev pub state_word : SmState → List ℕ
state_word NotActive = codes "not-active"
state_word Discovering = codes "discovering"
state_word Standby = codes "standby"
state_word Master = codes "master"
