use Rattle.std.proofs.Common.{◌≡◌, ◌<◌, List, sym, ap, ◌∙◌, subst, arith, length, map, take}
use Rattle.std.proofs.lemmas.List.{take_all}
use Rattle.std.specs.Prelude.{All}
use Rattle.spread_labels.specs.Leaves.{leaf_vertices}
use Rattle.balanced_choices.specs.declared.choice_rounds.Destination.{Destination}
use Rattle.spread_routes.specs.AdapterChoices.{destination}
use Rattle.spread_routes.proofs.PastEnds.{all_destinations}
use Rattle.spread_routes.proofs.adapter_choices.destinations.Goals as goal

pub returns-clause-positions : goal.returns-clause-positions
returns-clause-positions c =
    let numbers = c.args.leaf_numbers.now in
    let adapters = c.args.adapters.now in
    let leaves = leaf_vertices adapters in
    let long = ap length (c.deref-leaf-items.ensures.value ∙ c.in_ok-leaves.ensures.vertices) in
    let all : take c.loop-leaf.leaf-index leaves ≡ leaves =
    take_all c.loop-leaf.leaf-index leaves (omega (arith, c.loop-leaf-test.false, c.loop-leaf.auto.leaf-index-end, long)) in
    subst (λ (ds : List Destination). All (λ d. d.position < length adapters) ds)
    (sym (c.loop-leaf.invariant ∙ ap (map (destination numbers adapters)) all)) (all_destinations numbers adapters)
