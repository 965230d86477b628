-- How soon a manager that decides by itself begins a sweep, whatever it is about. InfiniBand Architecture Specification,
-- Volume 1: subnet management, subnet manager (sweeping).
use Rattle.std.specs.Prelude.{◌≡◌, ◌≤◌, ◌<◌, ◌+◌, ◌*◌, ◌^◌, ℕ, Bool, true, false, ◌&&◌, not, List, [], ◌∷◌, ◌++◌}
use Rattle.sm_policy.specs.Policy.{is_sweeping}
use Rattle.sm_policy.specs.PolicyLaws.{longest_wait}
use Rattle.acting_manager.specs.Acting.{Acting}
use Rattle.acting_manager.specs.Working.{is_idle, is_resting}
use Rattle.program_laws.specs.RestTime.{MaySweep, sweeps_by_itself}
use Rattle.program_laws.specs.Wakes.{ArePrompt, HasDecided, Line, NoneLeaves, after_line, after_lines, before_deciding}
use Rattle.program_laws.specs.Wakes.{longest_turn, turns_until}

-- whether a line begins a sweep: the manager did not sweep, and does afterwards
abbrev pub begins_sweep : Line → Acting → Bool
begins_sweep line a = not (is_sweeping a.policy.activity) && is_sweeping (after_line line a).policy.activity

-- whenever the manager decides while it rests, it may sweep; and once it rests without a request, it sweeps by itself
pub record IsToSweep (line : Line) (a : Acting) : Type 0 where
  pub may : is_resting a.policy.activity ≡ true → is_idle (before_deciding line a).window ≡ true → MaySweep (before_deciding line a)
  pub itself : is_resting (after_line line a).policy.activity ≡ true → is_idle (after_line line a).window ≡ true
      → sweeps_by_itself (after_line line a) ≡ true

-- none of the lines begins a sweep, although the manager is to sweep
abbrev pub BeginNoSweep : List Line → Acting → Type 0
BeginNoSweep [] a = Unit {0}
BeginNoSweep (line ∷ lines) a = (begins_sweep line a ≡ false) × IsToSweep line a × BeginNoSweep lines (after_line line a)

-- from any of the lines to a later one, what the manager has to send can be late at most `n` times
abbrev pub HasFewTurns : ℕ → List Line → Acting → Type 0
HasFewTurns n lines a =
    (first some rest : List Line) → lines ≡ first ++ (some ++ rest) → turns_until some (after_lines first a) ≤ n

-- a manager that decides by itself has begun no sweep through the lines. It may send each request once at least, one may
-- be out, nobody tells it to leave, and times fit in 64 bits
pub record IsWithoutSweep (n : ℕ) (a : Acting) (lines : List Line) : Type 0 where
  pub decided : HasDecided a
  pub first : is_resting a.policy.activity ≡ true → is_idle a.window ≡ true → sweeps_by_itself a ≡ true
  pub none : BeginNoSweep lines a
  pub few : HasFewTurns n lines a
  pub tries : 1 ≤ a.window.limits.tries
  pub outstanding : 1 ≤ a.window.limits.outstanding
  pub stays_on : a.is_leaving ≡ false
  pub none_leaves : NoneLeaves lines
  pub time : (after_lines lines a).time < 2 ^ 64

-- the manager begins a sweep before long, whatever it is about at first: its longest wait, and so many turns. A sweep that
-- runs ends first, the plan of it is written, the subnet is offered to another manager, and then it rests
abbrev pub SweepsAgainInTime : Type 0
SweepsAgainInTime =
    (n : ℕ) (a : Acting) (lines : List Line) (r : IsWithoutSweep n a lines) (late : ℕ) → ArePrompt late lines a
    → (after_lines lines a).time
    ≤ a.time + longest_wait r.decided.timing + (4 * (n + 3)) * longest_turn late a.window.limits
