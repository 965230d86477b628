use Rattle.std.proofs.Common.{◌≡◌, ◌*◌, ℕ, List, [], sym, ap, ◌∙◌, arith, get_or, length, map, replicate}
use Rattle.std.proofs.lemmas.List.{get_or-map, get_or-replicate, length-replicate}
use Rattle.port_graph.proofs.Counts.{length_map}
use Rattle.balanced_choices.specs.BalancedChoices.{ends_of}
use Rattle.balanced_choices.proofs.choice_rounds.Balance.at_first.Goals as goal

pub invariant_of-result : goal.invariant_of-result
invariant_of-result c =
    let n = c.len.result in
    let m = ends_of 0 c.args.destinations.now in
    let rows = c.in_ok-choices.choices.items in
    let own : List ℕ = replicate n 0 in
    let choices : map (λ w. w.items) rows ≡ replicate m own = c.in_ok-choices.ensures in
    let long : length rows ≡ m = sym (length_map (λ w. w.items) rows) ∙ ap length choices ∙ length-replicate m own in
    let loads : length c.in_ok-loads.loads.items ≡ 256 * n =
    ap length c.in_ok-loads.ensures ∙ length-replicate (256 * c.len-2.result) 0 ∙ ap (λ j. 256 * j) (c.len-2.ensures ∙ sym c.len.ensures) in
    λ k d h. ap (λ xs. 256 * length xs)
    (sym (get_or-map (λ w. w.items) rows k d [] h) ∙ ap (λ xs. get_or xs k []) choices ∙ get_or-replicate m k own [] (omega (arith, h, long)))
    ∙ ap (λ j. 256 * j) (length-replicate n 0) ∙ sym loads
