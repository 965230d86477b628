use Rattle.std.proofs.Common.{◌≡◌, map, take}
use Rattle.spread_labels.specs.Leaves.{leaf_vertices}
use Rattle.spread_routes.specs.AdapterChoices.{destination}
use Rattle.spread_routes.proofs.adapter_choices.destinations.Given as goal

-- those at the leaves so far
abbrev pub invariant-loop-leaf : goal.invariant-loop-leaf
invariant-loop-leaf l =
    l.found.items ≡ map (destination l.leaf_numbers l.adapters) (take l.leaf-index (leaf_vertices l.adapters))
