use Rattle.std.proofs.lemmas.Result.{IfOk-weaker}
use Rattle.clap.specs.Simple.{new_shape}
use Rattle.cli_arguments.specs.CommandLine.{of_planning, of_seat}
use Rattle.cli_arguments.proofs.Commands.{adds_both, of_rules}
use Rattle.cli_arguments.proofs.command_line.seated.Goals as goal

pub returns : goal.returns
returns c =
    let head = c.subcommand_head-command.result in
    IfOk-weaker c.with_planning.result _ _ (λ new h. of_rules head new (new_shape c.args.name.now) _ c.subcommand_head-command.ensures
    (adds_both head c.in_ok-of_seat.field-0 new of_seat (of_planning c.args.routings) c.in_ok-of_seat.ensures h)) c.with_planning.ensures
