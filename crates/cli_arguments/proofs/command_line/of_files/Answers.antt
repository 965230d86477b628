use Rattle.std.proofs.Common.{[], ◌∷◌}
use Rattle.std.proofs.lemmas.Result.{IfOk-weaker}
use Rattle.cli_arguments.specs.CommandLine.{files_rule, floor_rule}
use Rattle.cli_arguments.proofs.Commands.{adds_both, adds_rule}
use Rattle.cli_arguments.proofs.command_line.of_files.Goals as goal

pub returns : goal.returns
returns c =
    IfOk-weaker c.arg-2.result _ _ (λ new h. adds_both c.args.command c.in_ok-arg.field-0 new (files_rule ∷ []) (floor_rule ∷ [])
    (adds_rule _ _ c.files.result _ c.in_ok-arg.ensures c.files.ensures.rule c.files.ensures.own)
    (adds_rule _ _ c.floor.result _ h c.floor.ensures.rule c.floor.ensures.own)) c.arg-2.ensures
