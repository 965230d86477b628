use Rattle.std.proofs.Common.{◌++◌, [], ◌∷◌, sym, ap, ◌∙◌, map}
use Rattle.spread_labels.specs.DistanceClass.{distance_class_at}
use Rattle.spread_labels.specs.Orders.{numbers_from}
use Rattle.spread_labels.proofs.DistanceSums.{distance_classes_more}
use Rattle.spread_labels.proofs.distance_class.distance_classes.Goals as goal

pub loop-vertex-preserved : goal.loop-vertex-preserved
loop-vertex-preserved c =
    let f = distance_class_at c.args.roots.now c.args.leaves.now in
    let v = c.loop-vertex.vertex in
    c.in_ok-push.ensures.items ∙ ap (λ xs. xs ++ c.distance_class.result ∷ []) c.loop-vertex.invariant
    ∙ ap (λ x. map f (numbers_from 0 v) ++ x ∷ []) c.distance_class.ensures ∙ sym (distance_classes_more f v)
