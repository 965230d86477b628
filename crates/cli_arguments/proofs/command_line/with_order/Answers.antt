use Rattle.std.proofs.Common.{[], ◌∷◌, codes}
use Rattle.std.proofs.lemmas.Result.{IfOk-weaker}
use Rattle.cli_arguments.specs.CommandLine.{option_rule}
use Rattle.cli_arguments.proofs.Commands.{adds_both, adds_rule}
use Rattle.cli_arguments.proofs.command_line.with_order.Goals as goal

pub returns : goal.returns
returns c =
    IfOk-weaker c.arg-2.result _ _ (λ new h. adds_both c.args.command c.in_ok-arg.field-0 new (option_rule (codes "roots") ∷ [])
    (option_rule (codes "order") ∷ [])
    (adds_rule _ _ c.roots.result _ c.in_ok-arg.ensures c.roots.ensures.rule c.roots.ensures.own)
    (adds_rule _ _ c.order_file.result _ h c.order_file.ensures.rule c.order_file.ensures.own)) c.arg-2.ensures
