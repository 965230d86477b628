use Rattle.std.proofs.Common.{◌≡◌, ℕ, List, Option, subst}
use Rattle.std.specs.Prelude.{IfOk, map, option_map}
use Rattle.clap.specs.Matches.{found_of}
use Rattle.cli_task.proofs.Words.{names_are}
use Rattle.cli_task.proofs.task.names_of.Goals as goal

pub returns-in-Some : goal.returns-in-Some
returns-in-Some c =
    let Named : Option (List (List ℕ)) → Type 0 = λ all. IfOk c.names_behind.result (λ names.
    option_map (λ found. map (λ name. name.now) found.items) names ≡ all) in
    subst Named (names_are c.args.matches.now (found_of c.in-Some.words.now) c.args.task.now c.in-Some.ensures.rows) c.names_behind.ensures
