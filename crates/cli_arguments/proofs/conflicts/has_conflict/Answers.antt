-- The words of all arguments are those behind the subcommand.
use Rattle.std.proofs.Common.{◌∙◌, sym}
use Rattle.clap.specs.Matches.{found_of}
use Rattle.cli_arguments.proofs.FoundWords.{conflict_is}
use Rattle.cli_arguments.proofs.conflicts.has_conflict.Goals as goal

pub returns-in-Some : goal.returns-in-Some
returns-in-Some c =
    c.has_conflict_in.ensures
    ∙ sym (conflict_is c.args.matches.now (found_of c.in-Some.words.now) c.in-Some.name.now c.in-Some.ensures.rows c.in-Some.ensures.name)
