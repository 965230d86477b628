use Rattle.std.proofs.Common.{◌≡◌, ◌+◌, sym, ap, ◌∙◌, arith, get_or, length}
use Rattle.std.proofs.lemmas.List.{length-take}
use Rattle.std.specs.Prelude.{[], min}
use Rattle.balanced_choices.specs.Ways.{candidates_at}
use Rattle.balanced_choices.specs.BalancedChoices.{digits_from, in_turn, weight_among}
use Rattle.balanced_choices.proofs.choice.first_choice.Goals as goal

pub returns : goal.returns
returns c =
    let p = c.args.position in
    let edges = get_or c.args.ways.now.edges p [] in
    let turned : min (length edges) 256 ≡ min 256 (length edges) = omega arith in
    let at : c.at-edges.result.now ≡ edges = c.at-edges.ensures ∙ ap (λ s. get_or s.edges p []) c.ways.view_is in
    let count : c.min-count.result ≡ length (candidates_at c.args.ways.now.edges p) =
    c.min-count.ensures ∙ ap (λ es. min (length es) 256) at ∙ turned ∙ sym (length-take 256 edges) in
    let weight : c.weight_among-weight.result ≡ weight_among c.args.ways.now.digits edges p =
    c.weight_among-weight.ensures ∙ (λ i. weight_among (c.ways.view_is i).digits (at i) p) in
    c.in_turn.ensures
    ∙ (λ j. in_turn (count j) ((c.digits_from-digits.ensures.digits ∙ ap (λ w. digits_from w c.args.number) weight) j + p))
