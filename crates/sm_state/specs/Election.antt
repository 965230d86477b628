-- The managers that a sweep saw: which of them outrank a manager, to which it hands over, and which it polls.
-- InfiniBand Architecture Specification, Volume 1: subnet management, subnet manager (states, priorities).
use Rattle.std.specs.Prelude.{◌≡◌, Bool, true, false, ◌&&◌, ◌||◌, not, List, [], ◌∷◌, ◌++◌, filter, find, Contains, ◌==◌, if◌then◌else◌, Option, Some, None}
use Rattle.std.specs.List.{AllByRecursion, list_any}
use Rattle.std.specs.Option.{option_or}
use Rattle.attr_codec.specs.declared.sm_info.SmInfo.{SmInfo}
use Rattle.sm_state.specs.declared.event.Event.{Event}
use Rattle.sm_state.specs.declared.event.Event.TheVariants.{Outranked, Unrivalled}
use Rattle.sm_state.specs.declared.state.SmState.{SmState}
use Rattle.sm_state.specs.declared.state.SmState.TheVariants.{NotActive, Standby, Master}
use Rattle.sm_state.specs.Conduct.{is_heard}
use Rattle.sm_state.specs.Precedence.{wins}
use Rattle.sm_state.specs.State.{number_of_state}
use Rattle.sm_state.specs.declared.election.SeenManager.{SeenManager}

-- whether `info` reports the state `state`; a reserved number reports none of the states
abbrev pub says : SmState → SmInfo → Bool
says state info = info.state == number_of_state state

-- after a sweep ------------------------------------------------------------------------------------

-- whether the manager `other` outranks `own`: `own` hears `other`, which is a master, or is not Not-active and wins
-- over `own`
abbrev pub outranks : SmInfo → SmInfo → Bool
outranks own other = is_heard own other && (says Master other || (not (says NotActive other) && wins other own))

-- whether one of the managers `seen` outranks `own`
abbrev pub any_outranks : SmInfo → List SeenManager → Bool
any_outranks own seen = list_any (λ s. outranks own s.info) seen

-- the event for the manager `own` at the end of a sweep that saw the managers `seen`: `Outranked` if one of them
-- outranks `own`, else `Unrivalled`
abbrev pub sweep_verdict : SmInfo → List SeenManager → Event
sweep_verdict own seen = if any_outranks own seen then Outranked else Unrivalled

-- whom to hand over to -----------------------------------------------------------------------------

-- whether the manager `s` may succeed `own`: `own` hears `s`, which is standby or master and wins over `own`
abbrev pub is_candidate : SmInfo → SeenManager → Bool
is_candidate own s = is_heard own s.info && ((says Standby s.info || says Master s.info) && wins s.info own)

-- `s` if there is no best manager so far, or if `s` wins over it; else the best manager so far
abbrev pub better : Option SeenManager → SeenManager → SeenManager
better None s = s
better (Some best) s = if wins s.info best.info then s else best

-- the best manager after one more manager, `s`, is considered: the better of the best so far and `s` if `passes`,
-- else the best so far
abbrev pub next_best : Bool → Option SeenManager → SeenManager → Option SeenManager
next_best passes best s = if passes then Some (better best s) else best

-- the greatest of `best` and the managers of a list that pass the test; ties go to the first; None if `best` is None
-- and no manager passes
abbrev pub best_with : (SeenManager → Bool) → List SeenManager → Option SeenManager → Option SeenManager
best_with test [] best = best
best_with test (s ∷ seen) best = best_with test seen (next_best (test s) best s)

-- the greatest of the managers that pass the test; ties go to the first; None if none passes
abbrev pub greatest_of : (SeenManager → Bool) → List SeenManager → Option SeenManager
greatest_of test seen = best_with test seen None

-- the greatest of the managers that may succeed `own`; ties go to the first; None if no manager may
abbrev pub successor_of : SmInfo → List SeenManager → Option SeenManager
successor_of own seen = greatest_of (is_candidate own) seen

-- `successor` is one of `managers`; `successor` wins over each manager before it, and no manager after it wins over it
pub record IsFirstGreatest (managers : List SeenManager) (successor : SeenManager) : Type 0 where
  pub before : List SeenManager
  pub after : List SeenManager
  pub among : managers ≡ before ++ successor ∷ after
  pub greater : AllByRecursion (λ s. wins successor.info s.info ≡ true) before
  pub unbeaten : AllByRecursion (λ s. wins s.info successor.info ≡ false) after

-- the given manager is the first greatest of `managers`; None only if there are no managers
abbrev pub IsSuccessorOrNone : List SeenManager → Option SeenManager → Type 0
IsSuccessorOrNone managers None = managers ≡ []
IsSuccessorOrNone managers (Some successor) = IsFirstGreatest managers successor

-- `successor_of` gives the first greatest of the managers that may succeed `own`; None exactly when no manager may
abbrev pub SuccessorLaw : Type 0
SuccessorLaw = (own : SmInfo) (seen : List SeenManager)
    → IsSuccessorOrNone (filter (is_candidate own) seen) (successor_of own seen)

-- whom to yield to ---------------------------------------------------------------------------------

-- whether `own` hears the manager `s`, which reports `state`
abbrev pub is_heard_in : SmState → SmInfo → SeenManager → Bool
is_heard_in state own s = is_heard own s.info && says state s.info

-- the greatest of the managers in `state` that `own` hears; ties go to the first; None if it hears none
abbrev pub greatest_in : SmState → SmInfo → List SeenManager → Option SeenManager
greatest_in state own seen = greatest_of (is_heard_in state own) seen

-- the manager that gets the subnet from `own`, whichever of the two wins: the greatest master that `own` hears or, if it
-- hears no other master, the greatest standby that it hears; ties go to the first; None if it hears neither
abbrev pub heir_of : SmInfo → List SeenManager → Option SeenManager
heir_of own seen = option_or (greatest_in Master own seen) (greatest_in Standby own seen)

-- whom to poll -------------------------------------------------------------------------------------

-- whether the manager `s` outranks `own`
abbrev pub is_above : SmInfo → SeenManager → Bool
is_above own s = outranks own s.info

-- whether the manager `s` is a master that `own` hears
abbrev pub is_heard_master : SmInfo → SeenManager → Bool
is_heard_master own s = is_heard_in Master own s

-- the manager that `own` polls: the first master that `own` hears. If it hears no master, it polls the greatest of
-- those that outrank it; ties go to the first; None if no manager outranks it
abbrev pub polled_of : SmInfo → List SeenManager → Option SeenManager
polled_of own seen = option_or (find (is_heard_master own) seen) (greatest_of (is_above own) seen)

-- the given manager is one of `seen` and outranks `own`; None only if none of `seen` outranks `own`
abbrev pub IsPolledOrNone : SmInfo → List SeenManager → Option SeenManager → Type 0
IsPolledOrNone own seen None = any_outranks own seen ≡ false
IsPolledOrNone own seen (Some polled) = Contains seen polled × (outranks own polled.info ≡ true)

-- `polled_of` gives a manager that was seen and outranks `own`; None exactly when no manager that was seen outranks
-- `own`
abbrev pub PolledLaw : Type 0
PolledLaw = (own : SmInfo) (seen : List SeenManager) → IsPolledOrNone own seen (polled_of own seen)
