use Rattle.std.proofs.Common.{[], ◌∷◌}
use Rattle.std.proofs.lemmas.Result.{IfOk-weaker}
use Rattle.cli_arguments.specs.CommandLine.{every_rule, poll_rule, strict_rule}
use Rattle.cli_arguments.proofs.Commands.{adds_both, adds_rule}
use Rattle.cli_arguments.proofs.command_line.with_timing.Goals as goal

pub returns : goal.returns
returns c =
    let two = adds_both _ _ _ _ _ (adds_rule _ _ c.every.result _ c.in_ok-arg.ensures c.every.ensures.rule c.every.ensures.own)
    (adds_rule _ _ c.poll.result _ c.in_ok-arg-2.ensures c.poll.ensures.rule c.poll.ensures.own) in
    IfOk-weaker c.arg-3.result _ _ (λ new h. adds_both c.args.command c.in_ok-arg-2.field-0 new (every_rule ∷ poll_rule ∷ []) (strict_rule ∷ []) two
    (adds_rule _ _ c.strict.result _ h c.strict.ensures.rule c.strict.ensures.own)) c.arg-3.ensures
