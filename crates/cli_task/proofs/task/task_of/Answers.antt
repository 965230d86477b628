-- The words of all arguments are those behind the subcommand.
use Rattle.std.proofs.Common.{◌∙◌, List, Option, ℕ, ap, sym}
use Rattle.std.specs.Prelude.{option_and_then}
use Rattle.clap.specs.Matches.{found_of}
use Rattle.cli_arguments.proofs.FoundWords.{words_are}
use Rattle.cli_arguments.specs.Words.{word_named}
use Rattle.cli_task.specs.Task.{task_behind}
use Rattle.cli_task.proofs.task.task_of.Goals as goal

pub returns : goal.returns
returns c =
    c.task_behind.ensures
    ∙ sym (ap (λ (word : List ℕ → Option (List ℕ)). task_behind word c.in_ok-command.command.now)
    (words_are c.args.matches.now (found_of c.in_ok-command.words.now) c.in_ok-command.ensures.rows))
    ∙ ap (option_and_then (task_behind (word_named c.args.matches.now))) c.in_ok-command.ensures.name
