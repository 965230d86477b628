use Rattle.std.proofs.Common.{◌≡◌, [], ◌∷◌, codes, rules}
use Rattle.std.proofs.lemmas.Result.{IfOk-weaker}
use Rattle.clap.specs.Walk.{rule_of}
use Rattle.cli_arguments.specs.CommandLine.{multicast_rule, option_rule, port_rule, priority_rule, text_rule}
use Rattle.cli_arguments.proofs.Commands.{adds_both, adds_rule}
use Rattle.cli_arguments.proofs.command_line.of_seat.Goals as goal

pub returns : goal.returns
returns c =
    let guid : rule_of c.text.result ≡ text_rule (codes "GUID") = search rules in
    let two = adds_both _ _ _ _ _ (adds_rule _ _ c.text.result _ c.in_ok-arg.ensures guid c.text.ensures.own)
    (adds_rule _ _ c.port.result _ c.in_ok-arg-2.ensures c.port.ensures.rule c.port.ensures.own) in
    let three = adds_both _ _ _ (text_rule (codes "GUID") ∷ port_rule ∷ []) (priority_rule ∷ []) two
    (adds_rule _ _ c.priority.result _ c.in_ok-arg-3.ensures c.priority.ensures.rule c.priority.ensures.own) in
    let four = adds_both _ _ _ (text_rule (codes "GUID") ∷ port_rule ∷ priority_rule ∷ []) (option_rule (codes "sm-key") ∷ []) three
    (adds_rule _ _ c.sm_key.result _ c.in_ok-arg-4.ensures c.sm_key.ensures.rule c.sm_key.ensures.own) in
    IfOk-weaker c.arg-5.result _ _ (λ new h. adds_both c.args.command c.in_ok-arg-4.field-0 new
    (text_rule (codes "GUID") ∷ port_rule ∷ priority_rule ∷ option_rule (codes "sm-key") ∷ []) (multicast_rule ∷ []) four
    (adds_rule _ _ c.multicast.result _ h c.multicast.ensures.rule c.multicast.ensures.own)) c.arg-5.ensures
