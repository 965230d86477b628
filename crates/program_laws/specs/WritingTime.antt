-- How long a writing of a manager that decides by itself takes. InfiniBand Architecture Specification, Volume 1: subnet
-- management, initialization.
use Rattle.std.specs.Prelude.{◌≡◌, ◌≤◌, ◌<◌, ◌+◌, ◌*◌, ◌^◌, ℕ, true, false, List, [], length}
use Rattle.fact_store.specs.View.{cells_of}
use Rattle.plan_steps.specs.Bound.{most_steps}
use Rattle.sm_manager.specs.Manager.{Manager}
use Rattle.acting_manager.specs.Acting.{Acting}
use Rattle.acting_manager.specs.Working.{is_idle, is_writing}
use Rattle.manager_laws.specs.WritingEnds.{planned_steps}
use Rattle.program_laws.specs.ManagedEnds.{StaysAbout}
use Rattle.program_laws.specs.Wakes.{ArePrompt, HasDecided, IsNoLeave, Line, NoneLeaves, after_line, after_lines}
use Rattle.program_laws.specs.Wakes.{before_deciding, controls_in, longest_turn, wakes_met}

-- the manager that decides by itself in `first` is told a line, by which it becomes `a`: it has no request left, and
-- begins to write. Then it has requests, and it writes through the lines `lines`. It may send each request once at least,
-- one may be out, and nobody tells it to leave. Its newest generation fits in 32 bits at first
pub record IsWriting (first : Acting) (line : Line) (a : Acting) (lines : List Line) : Type 0 where
  pub decided : HasDecided first
  pub generations : decided.newest < 2 ^ 32
  pub none_left : NoneLeaves decided.lines
  pub stays : IsNoLeave line.1
  pub leads : after_line line first ≡ a
  pub decides : is_idle (before_deciding line first).window ≡ true
  pub writes : is_writing a.policy.activity ≡ true
  pub has_requests : is_idle a.window ≡ false
  pub goes_on : StaysAbout is_writing lines a
  pub tries : 1 ≤ a.window.limits.tries
  pub outstanding : 1 ≤ a.window.limits.outstanding
  pub stays_on : a.is_leaving ≡ false
  pub none_leaves : NoneLeaves lines

-- how often so many Sets can be late that may each be sent so often, with an acknowledgement for each of so many
-- controls, and once more for each control
abbrev pub turns_of : ℕ → ℕ → ℕ → ℕ
turns_of tries sets controls = tries * (sets + controls) + controls

-- what is so while a writing runs that the manager `m` has begun, after these lines
pub record WritesOn (m : Manager) (a : Acting) (lines : List Line) : Type 0 where
  -- the writing has seven phases with at most `most_steps` Sets each
  pub plan : length (planned_steps m) ≤ 7 * most_steps (cells_of m.store)
  -- at most so many wakes have been met
  pub few : wakes_met lines a ≤ turns_of a.window.limits.tries (length (planned_steps m)) (controls_in lines)
  -- if no line comes late, the lines take no longer than so many turns and one more
  pub soon : (late : ℕ) → ArePrompt late lines a
      → (after_lines lines a).time
      ≤ a.time
      + (turns_of a.window.limits.tries (length (planned_steps m)) (controls_in lines) + 1)
      * longest_turn late a.window.limits

-- whatever happens, a writing goes on only so long (`WritesOn`)
abbrev pub WritingsEndInTime : Type 0
WritingsEndInTime =
    (first : Acting) (line : Line) (a : Acting) (lines : List Line) → IsWriting first line a lines
    → WritesOn (before_deciding line first).manager a lines

-- an example: a manager that begins to write
pub record SomeManagerBeginsToWrite : Type 0 where
  pub first : Acting
  pub line : Line
  pub acting : Acting
  pub writing : IsWriting first line acting []
