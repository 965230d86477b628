use Rattle.std.proofs.lemmas.Result.{IfOk-weaker}
use Rattle.cli_arguments.proofs.Commands.{adds_rule}
use Rattle.cli_arguments.proofs.command_line.with_step.Goals as goal

pub returns : goal.returns
returns c =
    IfOk-weaker c.arg.result _ _ (λ new h. adds_rule _ _ c.last_order.result _ h c.last_order.ensures.rule c.last_order.ensures.own)
    c.arg.ensures
