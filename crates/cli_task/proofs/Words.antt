-- What the words of the command line name.
use Rattle.std.proofs.Common.{◌≡◌, Some, ap, refl, sym, ◌∙◌}
use Rattle.std.specs.Prelude.{codes, option_map}
use Rattle.clap.specs.Matches.{first_value, matched_of, raw_values}
use Rattle.clap.specs.Simple.{subcommand_rows_of}
use Rattle.clap.specs.Walk.{rows_of}
use Rattle.clap.specs.declared.parser.matches.ArgMatches.{ArgMatches}
use Rattle.clap.specs.declared.parser.matches.Found.{Found}
use Rattle.cli_arguments.proofs.FoundWords.{values_are, words_are}
use Rattle.cli_arguments.specs.Words.{files_named, word_named}
use Rattle.cli_task.specs.InputNames.{names_asked, names_in}
use Rattle.cli_task.specs.declared.task.Task.{Task}

-- the names of inputs are those that a subcommand's matches hold
pub names_are : (matches : ArgMatches) (found : Found) (task : Task) → Some (rows_of found) ≡ option_map (λ p. p.1) (subcommand_rows_of matches)
    → names_in (first_value found) (option_map raw_values (matched_of found (codes "FILE"))) task ≡ names_asked matches task
names_are matches found task e =
    let files : files_named matches ≡ option_map raw_values (matched_of found (codes "FILE")) =
    values_are (subcommand_rows_of matches) found (codes "FILE") _ e refl in
    ap (λ word. names_in word (option_map raw_values (matched_of found (codes "FILE"))) task) (sym (words_are matches found e))
    ∙ ap (λ names. names_in (word_named matches) names task) (sym files)
