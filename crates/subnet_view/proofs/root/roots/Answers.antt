-- Switch by switch.
use Rattle.std.proofs.Common.{◌≡◌, ◌+◌, ℕ, List, sym, ap, ◌∙◌, arith, length, replicate, refl, ◌<◌, get_or, take, true}
use Rattle.std.proofs.lemmas.List.{with_items_is, get_or_default}
use Rattle.std.specs.Prelude.{Option, None, Some, is_some, option_map}
use Rattle.std.specs.Option.{option_or}
use Rattle.port_graph.proofs.Counts.{length_map}
use Rattle.subnet_view.specs.SwitchEdges.{SwitchEdges}
use Rattle.subnet_view.specs.Graph.{guids_of}
use Rattle.subnet_view.proofs.FoundRoots.{first_root, AreRootsOf, no_roots, roots_filled, roots_passed, all_roots}
use Rattle.subnet_view.proofs.root.roots.Goals as goal
use Rattle.subnet_view.proofs.root.roots.Goals.{then-is_none+in_ok-distances, else-is_none}

-- what follows if a clone of nothing is nothing
filled : {X P : Type 0} (C : Option X → Type 0) → (((y : Option X) → C y → y ≡ None) → P) → ((x : X) → C (Some x) → ⊥) → P
filled {X} C follows not_some = follows same
  where
    same : (y : Option X) → C y → y ≡ None
    same None h = refl
    same (Some x) h = absurd (not_some x h)

pub loop-index-init : goal.loop-index-init
loop-index-init c = no_roots c.args.graph.now c.in_ok-roots.roots.items
    (filled _ c.in_ok-roots.ensures.items_if_clones_equal (λ x k. k) ∙ ap (λ m. replicate m None) c.len.ensures.count)

-- the items are those written
written : (n : ℕ) (graph : List SwitchEdges) (new : List (Option ℕ)) (items : List (Option ℕ)) → items ≡ new → AreRootsOf graph n new → AreRootsOf graph n items
written n graph new items e are = e ∙ are

pub loop-index-preserved : goal.loop-index-preserved
loop-index-preserved c =
    let graph = c.args.graph.now in
    let guids : List ℕ = guids_of graph in
    let index = c.loop-index.index in
    let roots = c.loop-index.roots.items in
    let below : index < length guids = omega (arith, c.loop-index-test.true, c.len-index-end.ensures.count, length_map (λ (x : SwitchEdges). x.guid) graph) in
    let long : length roots ≡ length guids = ap length c.loop-index.invariant ∙ length_map (first_root graph (take index guids)) guids in
    elim c.if-is_none.branch [
      | then-is_none+in_ok-distances w ↦
          let same : length w.fill.new.roots ≡ length roots = omega (arith, w.fill.auto.roots, w.deref_mut.ensures.len) in
          let root : w.index-switches-index.result ≡ get_or guids index 0 =
          w.index-switches-index.is ∙ ap (λ xs. get_or xs index w.index-switches-index.result) w.switches.ensures
          ∙ get_or_default guids index w.index-switches-index.result 0 below in
          written (index + 1) graph w.fill.new.roots c.if-is_none.roots.items (ap (λ v. v.items) w.roots-is
          ∙ with_items_is c.loop-index.roots w.fill.new.roots (omega arith))
          (roots_filled graph index roots w.in_ok-distances.distances.items w.fill.new.roots below c.loop-index.invariant w.in_ok-distances.ensures same
          (λ k l. w.fill.ensures k l
          ∙ (λ i. option_or (get_or (w.deref_mut.ensures.value i) k None) (option_map (λ d. root i) (get_or (w.deref.ensures.value i) k None)))))
      | else-is_none w ↦
          let there : is_some (get_or roots index None) ≡ true =
          ap is_some (get_or_default roots index None c.index.result.now (omega arith) ∙ sym c.index.ensures) ∙ w.if-is_none.ensures in
          written (index + 1) graph roots c.if-is_none.roots.items (ap (λ v. v.items) w.roots-is)
          (roots_passed graph c.len.ensures.is_graph index roots below c.loop-index.invariant there)
    ]

pub returns : goal.returns
returns c = all_roots c.args.graph.now c.len.ensures.is_graph c.loop-index.index c.loop-index.roots.items
    (omega (arith, c.loop-index-test.false, c.len-index-end.ensures.count, length_map (λ (x : SwitchEdges). x.guid) c.args.graph.now)) c.loop-index.invariant
