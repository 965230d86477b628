use Rattle.std.proofs.Common.{◌≡◌, [], ◌∷◌, codes, rules}
use Rattle.std.proofs.lemmas.Result.{IfOk-weaker}
use Rattle.clap.specs.Simple.{new_shape}
use Rattle.clap.specs.Walk.{rule_of}
use Rattle.cli_arguments.specs.CommandLine.{of_planning, text_rule}
use Rattle.cli_arguments.proofs.Commands.{adds_both, adds_rule, of_rules}
use Rattle.cli_arguments.proofs.command_line.run.Goals as goal

pub returns : goal.returns
returns c =
    let head = c.subcommand_head-command.result in
    let topology : rule_of c.text.result ≡ text_rule (codes "TOPOLOGY") = search rules in
    let schedule : rule_of c.text-2.result ≡ text_rule (codes "SCHEDULE") = search rules in
    let two = adds_both _ _ _ _ _ (adds_rule _ _ c.text.result _ c.in_ok-arg.ensures topology c.text.ensures.own)
    (adds_rule _ _ c.text-2.result _ c.in_ok-command.ensures schedule c.text-2.ensures.own) in
    IfOk-weaker c.with_planning.result _ _ (λ new h. of_rules head new (new_shape (codes "run")) _ c.subcommand_head-command.ensures
    (adds_both head c.in_ok-command.command new (text_rule (codes "TOPOLOGY") ∷ text_rule (codes "SCHEDULE") ∷ []) (of_planning c.args.routings) two h))
    c.with_planning.ensures
