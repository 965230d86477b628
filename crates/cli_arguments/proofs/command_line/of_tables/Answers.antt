use Rattle.std.proofs.Common.{◌≡◌, [], ◌∷◌, codes, rules}
use Rattle.std.proofs.lemmas.Result.{IfOk-weaker}
use Rattle.clap.specs.Walk.{rule_of}
use Rattle.cli_arguments.specs.CommandLine.{files_rule, text_rule}
use Rattle.cli_arguments.proofs.Commands.{adds_both, adds_rule}
use Rattle.cli_arguments.proofs.command_line.of_tables.Goals as goal

pub returns : goal.returns
returns c =
    let tables : rule_of c.text.result ≡ text_rule (codes "TABLES") = search rules in
    IfOk-weaker c.arg-2.result _ _ (λ new h. adds_both c.args.command c.in_ok-arg.field-0 new (text_rule (codes "TABLES") ∷ []) (files_rule ∷ [])
    (adds_rule _ _ c.text.result _ c.in_ok-arg.ensures tables c.text.ensures.own)
    (adds_rule _ _ c.files.result _ h c.files.ensures.rule c.files.ensures.own)) c.arg-2.ensures
