use Rattle.std.proofs.Common.{codes}
use Rattle.std.proofs.lemmas.Result.{IfOk-weaker}
use Rattle.cli_arguments.specs.CommandLine.{of_pace, seated_shape}
use Rattle.cli_arguments.proofs.Commands.{of_rules}
use Rattle.cli_arguments.proofs.command_line.manage.Goals as goal

pub returns : goal.returns
returns c =
    IfOk-weaker c.with_pace.result _ _ (λ new h. of_rules c.in_ok-command.command new (seated_shape (codes "manage") c.args.routings) of_pace
    c.in_ok-command.ensures h) c.with_pace.ensures
