-- Well-formed words ask for a task, and name its inputs.
use Rattle.std.proofs.Common.{◌≡◌, Option, None, Some, IsSome, is_some, true, refl, subst}
use Rattle.std.proofs.lemmas.Option.{same_Some}
use Rattle.std.specs.Prelude.{option_and_then, option_map}
use Rattle.clap.specs.declared.parser.matches.ArgMatches.{ArgMatches}
use Rattle.cli_arguments.specs.WellFormed.{IsWellFormed}
use Rattle.cli_task.proofs.WellFormed.{well_formed_asks}
use Rattle.cli_task.specs.Task.{task_asked}
use Rattle.cli_task.specs.InputNames.{names_asked}
use Rattle.cli_task.specs.declared.task.Task.{Task}

module _ {X Y : Type 0} (f : X → Option Y) where
  -- what is found behind something is found if that something is
  first_there : (o : Option X) → is_some (option_and_then f o) ≡ true → IsSome o
  first_there None e = absurd (cc)
  first_there (Some x) e = refl

  second_there : (o : Option X) (x : X) → o ≡ Some x → is_some (option_and_then f o) ≡ true → IsSome (f x)
  second_there None x is e = absurd (cc)
  second_there (Some y) x is e = subst (λ z. IsSome (f z)) (same_Some _ _ is) e

-- what is there in another form is there
pub was_there : {X Y : Type 0} (f : X → Y) (o : Option X) → IsSome (option_map f o) → IsSome o
was_there f None e = absurd (cc)
was_there f (Some x) e = refl

pub task_there : (matches : ArgMatches) → IsWellFormed matches → IsSome (task_asked matches)
task_there matches h = first_there (names_asked matches) (task_asked matches) (well_formed_asks matches h)

pub names_there : (matches : ArgMatches) (task : Task) → IsWellFormed matches → task_asked matches ≡ Some task → IsSome (names_asked matches task)
names_there matches task h is = second_there (names_asked matches) (task_asked matches) task is (well_formed_asks matches h)
