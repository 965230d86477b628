-- The vertices that are left do the rest.
use Rattle.std.specs.Prelude.{◌≡◌, drop}
use Rattle.two_orders.specs.Labels.{all_labelled}
use Rattle.two_orders.proofs.labels.label_each.Given as goal

abbrev pub invariant-loop-vertex : goal.invariant-loop-vertex
invariant-loop-vertex l =
    all_labelled l.edges l.orders l.sides l.fn.labels.items l.vertices
    ≡ all_labelled l.edges l.orders l.sides l.labels.items (drop l.vertex-index l.vertices)
