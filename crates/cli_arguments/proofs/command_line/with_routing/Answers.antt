use Rattle.std.proofs.Common.{[], ◌∷◌}
use Rattle.std.proofs.lemmas.Result.{IfOk-weaker}
use Rattle.cli_arguments.specs.CommandLine.{of_order, routing_rule}
use Rattle.cli_arguments.proofs.Commands.{adds_both, adds_rule}
use Rattle.cli_arguments.proofs.command_line.with_routing.Goals as goal

pub returns : goal.returns
returns c =
    IfOk-weaker c.with_order.result _ _ (λ new h. adds_both c.args.command c.in_ok-command.command new (routing_rule c.args.routings ∷ []) of_order
    (adds_rule _ _ c.routing.result _ c.in_ok-command.ensures c.routing.ensures.rule c.routing.ensures.own) h) c.with_order.ensures
