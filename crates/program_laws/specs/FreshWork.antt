-- How soon a manager that decides by itself has dealt with what a new sweep saw, whatever it is about. InfiniBand
-- Architecture Specification, Volume 1: subnet management, subnet manager (sweeping), initialization.
use Rattle.std.specs.Prelude.{◌≡◌, ◌≤◌, ◌<◌, ◌+◌, ◌*◌, ◌^◌, ℕ, Bool, true, false, ◌||◌, List, [], ◌∷◌}
use Rattle.sm_policy.specs.Policy.{is_sweeping}
use Rattle.sm_policy.specs.PolicyLaws.{longest_wait}
use Rattle.sm_policy.specs.declared.activity.Activity.{Activity}
use Rattle.acting_manager.specs.Acting.{Acting}
use Rattle.acting_manager.specs.Working.{is_idle, is_resting, is_writing}
use Rattle.program_laws.specs.NextSweep.{HasFewTurns, IsToSweep, begins_sweep}
use Rattle.program_laws.specs.RestTime.{sweeps_by_itself}
use Rattle.program_laws.specs.Wakes.{ArePrompt, HasDecided, Line, NoneLeaves, after_line, after_lines, longest_turn}

-- whether a manager works: it sweeps, or writes a plan
abbrev pub works : Activity → Bool
works what = is_sweeping what || is_writing what

-- none of the lines ends the work on a sweep that one of them began: until one begins, the manager is to sweep, and from
-- then on it works. `fresh` says whether one has begun before
abbrev pub EndNoFreshWork : Bool → List Line → Acting → Type 0
EndNoFreshWork fresh [] a = Unit {0}
EndNoFreshWork false (line ∷ lines) a = IsToSweep line a × EndNoFreshWork (begins_sweep line a) lines (after_line line a)
EndNoFreshWork true (line ∷ lines) a = (works (after_line line a).policy.activity ≡ true) × EndNoFreshWork true lines (after_line line a)

-- a manager that decides by itself has ended no work on a sweep that it began in the lines. It may send each request once
-- at least, one may be out, nobody tells it to leave, and times fit in 64 bits
pub record IsWithoutFreshWork (n : ℕ) (a : Acting) (lines : List Line) : Type 0 where
  pub decided : HasDecided a
  pub first : is_resting a.policy.activity ≡ true → is_idle a.window ≡ true → sweeps_by_itself a ≡ true
  pub none : EndNoFreshWork false lines a
  pub few : HasFewTurns n lines a
  pub tries : 1 ≤ a.window.limits.tries
  pub outstanding : 1 ≤ a.window.limits.outstanding
  pub stays_on : a.is_leaving ≡ false
  pub none_leaves : NoneLeaves lines
  pub time : (after_lines lines a).time < 2 ^ 64

-- before long the manager begins a sweep and ends its work on that: twice its longest wait, and so many turns
abbrev pub WorksAgainInTime : Type 0
WorksAgainInTime =
    (n : ℕ) (a : Acting) (lines : List Line) (r : IsWithoutFreshWork n a lines) (late : ℕ) → ArePrompt late lines a
    → (after_lines lines a).time
    ≤ a.time + 2 * longest_wait r.decided.timing + (6 * (n + 3)) * longest_turn late a.window.limits
