use Rattle.std.proofs.Common.{[], ◌∷◌}
use Rattle.std.proofs.lemmas.Result.{IfOk-weaker}
use Rattle.cli_arguments.specs.CommandLine.{outstanding_rule, timeout_rule, tries_rule}
use Rattle.cli_arguments.proofs.Commands.{adds_both, adds_rule}
use Rattle.cli_arguments.proofs.command_line.with_limits.Goals as goal

pub returns : goal.returns
returns c =
    let two = adds_both _ _ _ _ _ (adds_rule _ _ c.timeout.result _ c.in_ok-arg.ensures c.timeout.ensures.rule c.timeout.ensures.own)
    (adds_rule _ _ c.tries.result _ c.in_ok-arg-2.ensures c.tries.ensures.rule c.tries.ensures.own) in
    IfOk-weaker c.arg-3.result _ _ (λ new h. adds_both c.args.command c.in_ok-arg-2.field-0 new (timeout_rule ∷ tries_rule ∷ []) (outstanding_rule ∷ []) two
    (adds_rule _ _ c.outstanding.result _ h c.outstanding.ensures.rule c.outstanding.ensures.own)) c.arg-3.ensures
