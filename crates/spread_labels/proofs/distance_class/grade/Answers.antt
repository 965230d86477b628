use Rattle.std.proofs.Common.{ap, ◌∙◌, map, length}
use Rattle.std.specs.Prelude.{unwrap_or}
use Rattle.spread_labels.specs.DistanceClass.{distance_class_at}
use Rattle.spread_labels.specs.Orders.{numbers_from}
use Rattle.spread_labels.proofs.Numbers.{distance_classes_are, levels_are}
use Rattle.spread_labels.proofs.distance_class.grade.Goals as goal

pub returns-clause-distance_classes : goal.returns-clause-distance_classes
returns-clause-distance_classes c =
    let roots = c.deref.ensures.value in
    let leaves = c.deref-2.ensures.value in
    c.in_ok-distance_classes.ensures ∙ (λ i. map (distance_class_at (roots i) (leaves i)) (numbers_from 0 (length (roots i))))
    ∙ distance_classes_are c.args.edges.now c.args.leaves.now c.args.roots.now c.in_ok-near_roots.near_roots.items c.in_ok-near_leaves.near_leaves.items
    c.in_ok-near_roots.ensures.distance_sums c.in_ok-near_leaves.ensures.distance_sums

pub returns-clause-levels : goal.returns-clause-levels
returns-clause-levels c =
    c.in_ok-levels.ensures ∙ ap (map (λ t. unwrap_or t.near 0)) c.deref-3.ensures.value
    ∙ levels_are c.args.edges.now c.args.leaves.now c.in_ok-near_leaves.near_leaves.items c.in_ok-near_leaves.ensures.distance_sums
