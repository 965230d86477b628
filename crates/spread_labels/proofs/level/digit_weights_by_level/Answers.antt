use Rattle.std.proofs.Common.{◌≡◌, ◌+◌, ◌*◌, ◌++◌, ◌∷◌, [], suc, min, sym, ap, ◌∙◌, map, add-one}
use Rattle.spread_labels.specs.Level.{digit_weight_of}
use Rattle.spread_labels.specs.Orders.{numbers_from}
use Rattle.spread_labels.proofs.DistanceSums.{distance_classes_more}
use Rattle.spread_labels.proofs.level.digit_weights_by_level.Goals as goal

pub loop-level-preserved : goal.loop-level-preserved
loop-level-preserved c =
    let edges = c.args.edges.now in
    let hs = c.args.levels.now in
    let h = c.loop-level.level in
    let f = digit_weight_of edges hs in
    let next : c.next_digit_weight-digit_weight.result ≡ f (suc h) =
    c.next_digit_weight-digit_weight.ensures ∙ (λ i. min (c.loop-level.invariant.0 i * c.width.ensures i) 65536) in (
      next ∙ ap f (sym (add-one h)),
      c.in_ok-push-2.ensures.items ∙ ap (λ xs. xs ++ c.next_digit_weight-digit_weight.result ∷ []) c.loop-level.invariant.1
          ∙ ap (λ x. map f (numbers_from 0 (suc h)) ++ x ∷ []) next ∙ sym (distance_classes_more f (suc h))
          ∙ ap (λ n. map f (numbers_from 0 n)) (ap (λ n. n + 1) (sym (add-one h)) ∙ add-one (h + 1)),
    )
