use Rattle.std.proofs.Common.{[], ◌∷◌, ◌++◌}
use Rattle.std.proofs.lemmas.Result.{IfOk-weaker}
use Rattle.cli_arguments.specs.CommandLine.{newest_rule, of_limits, of_timing}
use Rattle.cli_arguments.proofs.Commands.{adds_both, adds_rule}
use Rattle.cli_arguments.proofs.command_line.with_pace.Goals as goal

pub returns : goal.returns
returns c =
    let limited = c.in_ok-with_limits.field-0 in
    let two = adds_both c.args.command c.in_ok-command.command limited of_timing of_limits c.in_ok-command.ensures c.in_ok-with_limits.ensures in
    IfOk-weaker c.arg.result _ _ (λ new h. adds_both c.args.command limited new (of_timing ++ of_limits) (newest_rule ∷ []) two
    (adds_rule _ _ c.newest.result _ h c.newest.ensures.rule c.newest.ensures.own)) c.arg.ensures
