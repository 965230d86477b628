-- How often the requests of a manager that decides by itself can be late between any two moments. InfiniBand Architecture
-- Specification, Volume 1: subnet management, SMP time-outs.
use Rattle.std.specs.Prelude.{◌≡◌, ◌≤◌, ◌<◌, ◌+◌, ◌*◌, ◌^◌, ℕ, true, false, List, length}
use Rattle.acting_manager.specs.Acting.{Acting}
use Rattle.acting_manager.specs.Working.{is_idle, is_writing}
use Rattle.manager_laws.specs.WritingEnds.{planned_steps}
use Rattle.program_laws.specs.NextSweep.{HasFewTurns}
use Rattle.program_laws.specs.Wakes.{AtEachLine, HasDecided, Line, NoneLeaves, after_line, before_deciding, chances_in, control_in, next_in}
use Rattle.program_laws.specs.Wakes.{sets_to_come}

-- little is asked by a line: it is no control; the number of the sweep's next request is at most `asked` then; where the manager
-- decides, numbers are left for its Sets; and if it begins to write, its plan has at most `sets` Sets
pub record AsksLittle (asked sets : ℕ) (line : Line) (a : Acting) : Type 0 where
  pub no_control : control_in line.1 ≡ 0
  pub few : next_in (after_line line a).manager.sweep ≤ asked
  pub numbers : is_idle (before_deciding line a).window ≡ true
      → (before_deciding line a).manager.counter + sets_to_come (before_deciding line a).manager ≤ 2 ^ 32
  pub plan : is_idle (before_deciding line a).window ≡ true → is_writing (after_line line a).policy.activity ≡ true
      → length (planned_steps (before_deciding line a).manager) ≤ sets

-- a manager that decides by itself goes on through the lines, by each of which little is asked. It may send each request once
-- at least, nobody tells it to leave or has told it, and its newest generation fits in 32 bits at first
pub record HasLittle (asked sets : ℕ) (a : Acting) (lines : List Line) : Type 0 where
  pub decided : HasDecided a
  pub generations : decided.newest < 2 ^ 32
  pub none_left : NoneLeaves decided.lines
  pub tries : 1 ≤ a.window.limits.tries
  pub stays_on : a.is_leaving ≡ false
  pub none_leaves : NoneLeaves lines
  pub first : next_in a.manager.sweep ≤ asked
  pub some : 1 ≤ sets
  pub little : AtEachLine (AsksLittle asked sets) lines a

-- from any moment to a later one, the manager's requests can be late as often as those of `a` can, its Sets that were still to
-- be sent, those of a plan, and all that a sweep asks
abbrev pub TurnsAreFew : Type 0
TurnsAreFew =
    (asked sets : ℕ) (a : Acting) (lines : List Line) → HasLittle asked sets a lines
    → HasFewTurns (chances_in a.window + a.window.limits.tries * (sets_to_come a.manager + sets + asked)) lines a
