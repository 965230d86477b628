-- Root by root.
use Rattle.std.proofs.Common.{◌≡◌, ◌+◌, ℕ, List, sym, ap, ap₂, ◌∙◌, arith, length, replicate, refl, ◌<◌, get_or, take, true}
use Rattle.std.proofs.lemmas.List.{with_items_is, get_or_default}
use Rattle.std.specs.Prelude.{Option, None, Some, is_some}
use Rattle.std.specs.Option.{option_or}
use Rattle.port_graph.proofs.Counts.{length_map}
use Rattle.subnet_view.specs.SwitchEdges.{SwitchEdges}
use Rattle.subnet_view.specs.Graph.{guids_of}
use Rattle.updown_routes.proofs.RootByRoot.{first_distance, AreRanksOf, no_ranks, ranks_filled, ranks_passed, all_ranks}
use Rattle.updown_routes.proofs.rank.ranks.Goals as goal
use Rattle.updown_routes.proofs.rank.ranks.Goals.{then-is_none+in_ok-distances, else-is_none}

-- what follows if a clone of nothing is nothing
filled : {X P : Type 0} (C : Option X → Type 0) → (((y : Option X) → C y → y ≡ None) → P) → ((x : X) → C (Some x) → ⊥) → P
filled {X} C follows not_some = follows same
  where
    same : (y : Option X) → C y → y ≡ None
    same None h = refl
    same (Some x) h = absurd (not_some x h)

pub loop-root-init : goal.loop-root-init
loop-root-init c = no_ranks c.args.graph.now c.in_ok-ranks.ranks.items
    (filled _ c.in_ok-ranks.ensures.items_if_clones_equal (λ x k. k) ∙ ap (λ m. replicate m None) c.len.ensures.count)

-- the items are those written
written : (n : ℕ) (graph : List SwitchEdges) (new : List (Option ℕ)) (items : List (Option ℕ)) → items ≡ new → AreRanksOf graph n new → AreRanksOf graph n items
written n graph new items e are = e ∙ are

pub loop-root-preserved : goal.loop-root-preserved
loop-root-preserved c =
    let graph = c.args.graph.now in
    let guids : List ℕ = guids_of graph in
    let root = c.loop-root.root in
    let ranks = c.loop-root.ranks.items in
    let below : root < length guids = omega (arith, c.loop-root-test.true, c.len-root-end.ensures.count, length_map (λ (x : SwitchEdges). x.guid) graph) in
    let long : length ranks ≡ length guids = ap length c.loop-root.invariant ∙ length_map (first_distance graph (take root guids)) guids in
    elim c.if-is_none.branch [
      | then-is_none+in_ok-distances w ↦
          let same : length w.fill.new.ranks ≡ length ranks = omega (arith, w.fill.auto.ranks, w.deref_mut.ensures.len) in
          written (root + 1) graph w.fill.new.ranks c.if-is_none.ranks.items (ap (λ v. v.items) w.ranks-is
          ∙ with_items_is c.loop-root.ranks w.fill.new.ranks (omega arith))
          (ranks_filled graph root ranks w.in_ok-distances.distances.items w.fill.new.ranks below c.loop-root.invariant w.in_ok-distances.ensures same
          (λ k l. w.fill.ensures k l ∙ ap₂ (λ xs ys. option_or (get_or xs k None) (get_or ys k None)) w.deref_mut.ensures.value w.deref.ensures.value))
      | else-is_none w ↦
          let there : is_some (get_or ranks root None) ≡ true =
          ap is_some (get_or_default ranks root None c.index.result.now (omega arith) ∙ sym c.index.ensures) ∙ w.if-is_none.ensures in
          written (root + 1) graph ranks c.if-is_none.ranks.items (ap (λ v. v.items) w.ranks-is)
          (ranks_passed graph c.len.ensures.is_graph root ranks below c.loop-root.invariant there)
    ]

pub returns-clause-ranks : goal.returns-clause-ranks
returns-clause-ranks c = all_ranks c.args.graph.now c.len.ensures.is_graph c.loop-root.root c.loop-root.ranks.items
    (omega (arith, c.loop-root-test.false, c.len-root-end.ensures.count, length_map (λ (x : SwitchEdges). x.guid) c.args.graph.now)) c.loop-root.invariant
