use Rattle.std.proofs.Common.{[], ◌∷◌}
use Rattle.std.proofs.lemmas.Result.{IfOk-weaker}
use Rattle.cli_arguments.specs.CommandLine.{lmc_rule, of_routing}
use Rattle.cli_arguments.proofs.Commands.{adds_both, adds_rule}
use Rattle.cli_arguments.proofs.command_line.with_planning.Goals as goal

pub returns : goal.returns
returns c =
    IfOk-weaker c.with_routing.result _ _ (λ new h. adds_both c.args.command c.in_ok-command.command new (lmc_rule ∷ []) (of_routing c.args.routings)
    (adds_rule _ _ c.lmc.result _ c.in_ok-command.ensures c.lmc.ensures.rule c.lmc.ensures.own) h) c.with_routing.ensures
