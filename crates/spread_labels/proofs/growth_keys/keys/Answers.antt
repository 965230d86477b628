use Rattle.std.proofs.Common.{◌≡◌, ◌<◌, ◌++◌, [], ◌∷◌, sym, ap, ◌∙◌, arith, length, map, ℕ}
use Rattle.std.proofs.lemmas.List.{get_or_default}
use Rattle.std.specs.Prelude.{None, slice_index, unwrap_or}
use Rattle.port_graph.proofs.Counts.{length_map}
use Rattle.spread_labels.specs.GrowthKeys.{by_distance_class, distances_from, from_first, key_of}
use Rattle.spread_labels.specs.Orders.{numbers_from}
use Rattle.spread_labels.proofs.FromFirst.{far_is}
use Rattle.spread_labels.proofs.DistanceSums.{distance_classes_more}
use Rattle.spread_labels.proofs.growth_keys.keys.Goals as goal

pub far-requires-clause-all : goal.far-requires-clause-all
far-requires-clause-all c =
    ap length (c.deref.ensures.value ∙ c.in_ok-by_distance_class.ensures)
    ∙ length_map (λ (k : ℕ). record { distance_class = k; distance = 0 }) c.args.distance_classes.now ∙ c.requires.all

pub loop-vertex-preserved : goal.loop-vertex-preserved
loop-vertex-preserved c =
    let edges = c.args.edges.now in
    let distance_classes = c.args.distance_classes.now in
    let v = c.loop-vertex.vertex in
    let f = key_of edges distance_classes in
    let below : v < length edges = omega (arith, c.loop-vertex-test.true, c.len-vertex-end.ensures) in
    let all = c.in_ok-far.ensures in
    let found : c.unwrap_or.result ≡ from_first (by_distance_class distance_classes) (distances_from edges v) =
    c.unwrap_or.ensures
    ∙ ap (λ o. unwrap_or o 0) (c.index.ensures ∙ sym (get_or_default c.in_ok-far.far.items v None c.index.result.now (omega (arith, all.all))))
    ∙ far_is edges c.deref.result.now c.in_ok-far.far.items all v below
    ∙ ap (λ ks. from_first ks (distances_from edges v)) (c.deref.ensures.value ∙ c.in_ok-by_distance_class.ensures) in
    c.in_ok-push.ensures.items ∙ ap (λ xs. xs ++ record { distance_class = slice_index distance_classes v; distance = c.unwrap_or.result }
    ∷ []) c.loop-vertex.invariant
    ∙ ap (λ x. map f (numbers_from 0 v) ++ record { distance_class = slice_index distance_classes v; distance = x } ∷ []) found
    ∙ sym (distance_classes_more f v)
