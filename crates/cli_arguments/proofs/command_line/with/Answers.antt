use Rattle.std.proofs.Common.{subst}
use Rattle.std.specs.Prelude.{IfOk}
use Rattle.std.proofs.lemmas.Result.{IfOk-weaker}
use Rattle.cli_arguments.specs.CommandLine.{IsApp, IsOf}
use Rattle.cli_arguments.proofs.Commands.{adds_subcommand}
use Rattle.cli_arguments.proofs.command_line.with.Goals as goal

pub returns : goal.returns
returns c app shape is_app is_of =
    IfOk-weaker c.subcommand.result _ _ (λ new h. adds_subcommand c.in_ok-command.field-0 c.in_ok-subcommand.subcommand new app shape h
    (subst (λ r. IfOk r (IsApp app)) c.in_ok-command.was is_app) (subst (λ r. IfOk r (IsOf shape)) c.in_ok-subcommand.was is_of))
    c.subcommand.ensures
