-- The laws of accepted command lines: well-formed words ask for a task, whose numbers are in their ranges.
use Rattle.std.specs.Prelude.{◌≡◌, ◌≤◌, ℕ, true, is_some, IfSome}
use Rattle.clap.specs.declared.parser.matches.ArgMatches.{ArgMatches}
use Rattle.cli_arguments.specs.WellFormed.{IsWellFormed}
use Rattle.cli_task.specs.declared.managing.Managing.{Managing}
use Rattle.cli_task.specs.declared.task.Task.{Task}
use Rattle.cli_task.specs.declared.task.Task.TheVariants.{Manage}
use Rattle.cli_task.specs.InputNames.{inputs_asked}
use Rattle.cli_task.specs.Task.{task_asked}

-- well-formed words ask for a task, and the name of none of its inputs is missing
abbrev pub WellFormedWordsAsk : Type 0
WellFormedWordsAsk = (matches : ArgMatches) → IsWellFormed matches → is_some (inputs_asked matches) ≡ true

-- `n` is from `least` to `most`
abbrev pub IsBetween : ℕ → ℕ → ℕ → Type 0
IsBetween least most n = (least ≤ n) × (n ≤ most)

-- the numbers by which a manager that decides by itself is paced are in their ranges: it sweeps again after 1 to 60
-- seconds, polls and waits for answers at least 1 millisecond and at most 10 minutes, has 1 to 64 requests out at a time
-- and sends each 1 to 101 times, and there is a generation above the newest one
pub record IsPaced (asked : Managing) : Type 0 where
  pub every : IsBetween 1000 3600000 asked.timing.every
  pub poll : IsBetween 1 600000 asked.timing.poll
  pub outstanding : IsBetween 1 64 asked.limits.outstanding
  pub tries : IsBetween 1 101 asked.limits.tries
  pub timeout : IsBetween 1 600000 asked.limits.timeout
  pub newest : IsBetween 0 4294967294 asked.newest

-- if the task runs a manager that decides by itself, this manager is paced by numbers in their ranges
abbrev pub IsPacedTask : Task → Type 0
IsPacedTask (Manage asked) = IsPaced asked
IsPacedTask task = Unit {0}

-- the task that well-formed words ask for has its numbers in their ranges
abbrev pub PacesAreInRange : Type 0
PacesAreInRange = (matches : ArgMatches) → IsWellFormed matches → IfSome (task_asked matches) IsPacedTask
