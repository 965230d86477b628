use Rattle.std.proofs.Common.{◌≡◌, ◌∙◌, [], inl, inr, map, rules, refl, sym, ap, subst}
use Rattle.clap.specs.Simple.{App, app_of, subcommand_of, subcommand_rows_of}
use Rattle.clap.specs.Faults.{fault_of, is_simple_and_free}
use Rattle.clap.specs.Kinds.{IsAmong}
use Rattle.clap.specs.Values.{kind_of}
use Rattle.cli_arguments.specs.CommandLine.{AreRoutings, command_line}
use Rattle.cli_arguments.specs.Words.{has_conflict_behind}
use Rattle.cli_arguments.proofs.Reading.{no_fault, reads}
use Rattle.cli_arguments.proofs.WellFormed.{read_is_well_formed}
use Rattle.cli_arguments.proofs.command_line.matches_of.Goals as goal

pub returns : goal.returns
returns c =
    let words = map (λ word. word.bytes.items) c.args.words.now in
    let line = command_line c.as_slice.result in
    let is : app_of c.in_ok-command.command ≡ line = c.in_ok-command.ensures.0 in
    let routings : AreRoutings c.as_slice.result = search rules in
    let rows : subcommand_rows_of c.in-Ok.matches ≡ subcommand_of line words = reads _ line words is c.in-Ok.matches refl c.in-Ok.ensures.matches in
    let none : fault_of line words ≡ [] = no_fault _ line words is refl c.in-Ok.ensures.kinds in
    let apart = ap has_conflict_behind (sym rows) ∙ sym c.if-has_conflict.ensures in
    record {
      read = (c.as_slice.result, routings, (rows, none, apart));
      well_formed = read_is_well_formed c.as_slice.result words c.in-Ok.matches routings (rows, none, apart);
    }

pub returns-in-Err-clause-read : goal.returns-in-Err-clause-read
returns-in-Err-clause-read c =
    let words = map (λ word. word.bytes.items) c.args.words.now in
    let line = command_line c.as_slice.result in
    let is : app_of c.in_ok-command.command ≡ line = c.in_ok-command.ensures.0 in
    let routings : AreRoutings c.as_slice.result = search rules in (
      c.as_slice.result,
      routings,
      elim (c.in-Err.ensures.kinds (ap is_simple_and_free is)) [
        | inl memory ↦ inl memory
        | inr among ↦ inr (inl (subst (λ (app : App). IsAmong (kind_of c.in-Err.error) (fault_of app words)) is among))
      ],
    )

pub returns-then-has_conflict-clause-read : goal.returns-then-has_conflict-clause-read
returns-then-has_conflict-clause-read c =
    let words = map (λ word. word.bytes.items) c.args.words.now in
    let line = command_line c.as_slice.result in
    let is : app_of c.in_ok-command.command ≡ line = c.in_ok-command.ensures.0 in
    let routings : AreRoutings c.as_slice.result = search rules in
    let rows : subcommand_rows_of c.in-Ok.matches ≡ subcommand_of line words = reads _ line words is c.in-Ok.matches refl c.in-Ok.ensures.matches in
    let none : fault_of line words ≡ [] = no_fault _ line words is refl c.in-Ok.ensures.kinds in
    let conflict = ap has_conflict_behind (sym rows) ∙ sym c.has_conflict.ensures ∙ c.if-has_conflict.true in
    (c.as_slice.result, routings, inr (inr (none, conflict, c.in_ok-error.ensures)))
