-- How long a manager that decides by itself rests before it sweeps. InfiniBand Architecture Specification, Volume 1:
-- subnet management, subnet manager (sweeping).
use Rattle.std.specs.Prelude.{◌≡◌, ◌≤◌, ◌<◌, ◌+◌, ◌*◌, ◌^◌, ℕ, Bool, true, false, List, [], ◌∷◌, Option, None}
use Rattle.sm_state.specs.declared.state.SmState.{SmState}
use Rattle.sm_state.specs.declared.state.SmState.TheVariants.{Discovering, Standby, Master}
use Rattle.sm_manager.specs.Manager.{begin_fault}
use Rattle.sm_policy.specs.PolicyLaws.{longest_wait}
use Rattle.sm_policy.specs.declared.rival.Rival.{Rival}
use Rattle.acting_manager.specs.Acting.{Acting}
use Rattle.acting_manager.specs.Acts.{floor_raised}
use Rattle.acting_manager.specs.Working.{is_idle, is_resting}
use Rattle.program_laws.specs.Wakes.{ArePrompt, HasDecided, Line, NoneLeaves, after_line, after_lines, before_deciding}
use Rattle.program_laws.specs.Wakes.{longest_turn, turns_until}

-- whether a manager in this state, which polls the given master, sweeps by itself: it discovers, or is master, or is a
-- standby that knows no master
abbrev pub sweeps_in : SmState → Option Rival → Bool
sweeps_in Discovering master = true
sweeps_in Master master = true
sweeps_in Standby None = true
sweeps_in state master = false

abbrev pub sweeps_by_itself : Acting → Bool
sweeps_by_itself a = sweeps_in a.policy.state a.policy.master

-- the manager sweeps by itself, and its sweep would not be refused
pub record MaySweep (a : Acting) : Type 0 where
  pub itself : sweeps_by_itself a ≡ true
  pub unrefused : begin_fault (floor_raised a).manager ≡ None

-- after each of the lines the manager rests, and whenever it decides, it may sweep
abbrev pub RestsThrough : List Line → Acting → Type 0
RestsThrough [] a = Unit {0}
RestsThrough (line ∷ lines) a =
    (is_resting (after_line line a).policy.activity ≡ true)
    × (is_idle (before_deciding line a).window ≡ true → MaySweep (before_deciding line a))
    × RestsThrough lines (after_line line a)

-- a manager that decides by itself rests in `a`, and so it does through the lines. It may send each request once at
-- least, one may be out, nobody tells it to leave, and times fit in 64 bits
pub record IsRest (a : Acting) (lines : List Line) : Type 0 where
  pub decided : HasDecided a
  pub rests : is_resting a.policy.activity ≡ true
  pub first : is_idle a.window ≡ true → sweeps_by_itself a ≡ true
  pub goes_on : RestsThrough lines a
  pub tries : 1 ≤ a.window.limits.tries
  pub outstanding : 1 ≤ a.window.limits.outstanding
  pub stays_on : a.is_leaving ≡ false
  pub none_leaves : NoneLeaves lines
  pub time : a.time < 2 ^ 64

-- a rest goes on only so long: the longest wait, and as many turns as its requests can be late, and one more. Any packets
-- may come, sweeps may be asked for, and the manager may stand still
abbrev pub RestsEndInTime : Type 0
RestsEndInTime =
    (a : Acting) (lines : List Line) (r : IsRest a lines) (late : ℕ) → ArePrompt late lines a
    → (after_lines lines a).time
    ≤ a.time + longest_wait r.decided.timing + (turns_until lines a + 1) * longest_turn late a.window.limits
