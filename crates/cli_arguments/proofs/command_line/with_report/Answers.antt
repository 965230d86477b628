use Rattle.std.proofs.Common.{[], ◌∷◌, codes}
use Rattle.std.proofs.lemmas.Result.{IfOk-weaker}
use Rattle.cli_arguments.specs.CommandLine.{all_rule, loads_rule, max_load_rule, option_rule}
use Rattle.cli_arguments.proofs.Commands.{adds_both, adds_rule}
use Rattle.cli_arguments.proofs.command_line.with_report.Goals as goal

pub returns : goal.returns
returns c =
    let two = adds_both _ _ _ _ _ (adds_rule _ _ c.all.result _ c.in_ok-arg.ensures c.all.ensures.rule c.all.ensures.own)
    (adds_rule _ _ c.max_load.result _ c.in_ok-arg-2.ensures c.max_load.ensures.rule c.max_load.ensures.own) in
    let three = adds_both _ _ _ (all_rule ∷ max_load_rule ∷ []) (loads_rule ∷ []) two
    (adds_rule _ _ c.loads.result _ c.in_ok-arg-3.ensures c.loads.ensures.rule c.loads.ensures.own) in
    let four = adds_both _ _ _ (all_rule ∷ max_load_rule ∷ loads_rule ∷ []) (option_rule (codes "way") ∷ []) three
    (adds_rule _ _ c.way.result _ c.in_ok-arg-4.ensures c.way.ensures.rule c.way.ensures.own) in
    IfOk-weaker c.arg-5.result _ _ (λ new h. adds_both c.args.command c.in_ok-arg-4.field-0 new
    (all_rule ∷ max_load_rule ∷ loads_rule ∷ option_rule (codes "way") ∷ []) (option_rule (codes "lanes") ∷ []) four
    (adds_rule _ _ c.lanes.result _ h c.lanes.ensures.rule c.lanes.ensures.own)) c.arg-5.ensures
