-- The switches of a graph by their indices: their edges lead to indices, there and back.
use Rattle.std.proofs.Common.{◌≡◌, ◌<◌, ℕ, zero, suc, List, [], ◌∷◌, inl, inr, refl, sym, ap, ◌∙◌, subst, arith, true, false, cond, ◌==◌, map, length}
use Rattle.std.proofs.lemmas.Bool.{eq-eqb}
use Rattle.std.proofs.lemmas.List.Kept.{AllPairs-from_increasing}
use Rattle.std.specs.Prelude.{Contains}
use Rattle.smp_bytes.proofs.Members.{contains_cases, contains_none}
use Rattle.port_graph.specs.declared.edge.Edge.{Edge}
use Rattle.port_graph.specs.Heads.{edges_at, heads, LeadToVertices}
use Rattle.port_graph.specs.Walks.{Walk}
use Rattle.port_graph.proofs.Lists.{contains_map, contains_mapped}
use Rattle.port_graph.proofs.Counts.{length_map}
use Rattle.port_graph.proofs.Indexing.{edges_below}
use Rattle.spread_labels.specs.LabelLaws.{IsSymmetric}
use Rattle.spread_labels.specs.Orders.{at_position, position_of, positioned_edge}
use Rattle.spread_labels.proofs.ByPositions.{position_less, position_at}
use Rattle.spread_labels.proofs.Growing.{contains_at}
use Rattle.subnet_view.specs.SwitchEdges.{SwitchEdges}
use Rattle.subnet_view.specs.Graph.{guids_of, neighbors}
use Rattle.subnet_view.specs.Graph.{edges_at as wires_at}
use Rattle.subnet_view.specs.GraphLaws.{IsGraph, IsSwitch}
use Rattle.subnet_view.specs.Components.{distance, in_one_component}
use Rattle.subnet_view.proofs.Components.{is_some_of, walk_of}
use Rattle.spread_routes.specs.Rule.{by_index}

-- the row at the index of a switch is made of its wires
pub rows : (f : Edge → Edge) (graph : List SwitchEdges) (g : ℕ) → IsSwitch graph g
    → edges_at (map (λ c. map f c.edges) graph) (position_of (guids_of graph) g) ≡ map f (wires_at graph g)
rows f [] g is = absurd (contains_none g is)
rows f (c ∷ graph) g is =
    elim (c.guid == g) as (λ b. (c.guid == g) ≡ b
    → edges_at (map (λ x. map f x.edges) (c ∷ graph)) (cond b 0 (suc (position_of (guids_of graph) g))) ≡ map f (cond b c.edges (wires_at graph g))) [
      | true ↦ λ q. refl
      | false ↦ λ q. (elim (contains_cases c.guid g (guids_of graph) is) [
        | inl same ↦ (let e = eq-eqb c.guid g same in absurd (cc))
        | inr k ↦ rows f graph g k
      ])
    ] refl

module _ (graph : List SwitchEdges) (good : IsGraph graph) where
  abbrev guids : List ℕ
  guids = guids_of graph

  abbrev index : ℕ → ℕ
  index g = position_of guids g

  pub as_many : length (by_index graph) ≡ length guids
  as_many = length_map (λ (c : SwitchEdges). map (positioned_edge guids) c.edges) graph ∙ sym (length_map (λ (c : SwitchEdges). c.guid) graph)

  pub distinct : (i j : ℕ) → i < length guids → j < i → at_position guids j ≡ at_position guids i → ⊥
  distinct i j h l e = let a = AllPairs-from_increasing guids good.rising j i 0 l h in omega (arith, e)

  pub index_within : (g : ℕ) → IsSwitch graph g → index g < length (by_index graph)
  index_within g is = omega (arith, (position_less guids g is).0, as_many)

  pub switch_of_index : (g : ℕ) → IsSwitch graph g → at_position guids (index g) ≡ g
  switch_of_index g is = (position_less guids g is).1

  pub index_of_switch : (i : ℕ) → i < length guids → index (at_position guids i) ≡ i
  index_of_switch i h = position_at guids distinct i h

  -- a wire of the switch at an index, and the edge that it is
  pub record IsWireAt (i : ℕ) (e : Edge) : Type 0 where
    pub below : i < length guids
    pub wire : Edge
    pub there : Contains (wires_at graph (at_position guids i)) wire
    pub same : positioned_edge guids wire ≡ e
    pub to_switch : IsSwitch graph wire.to

  pub wire_at : (i : ℕ) (e : Edge) → Contains (edges_at (by_index graph) i) e → IsWireAt i e
  wire_at i e h =
      let below : i < length guids = omega (arith, edges_below (by_index graph) i e h, as_many) in
      let g = at_position guids i in
      let is : IsSwitch graph g = contains_at guids i below in
      let row : edges_at (by_index graph) i ≡ map (positioned_edge guids) (wires_at graph g) =
      sym (ap (edges_at (by_index graph)) (index_of_switch i below)) ∙ rows (positioned_edge guids) graph g is in
      let x = contains_map (positioned_edge guids) (wires_at graph g) e (subst (λ (xs : List Edge). Contains xs e) row h) in
      record {
        below = below;
        wire = x.0;
        there = x.1;
        same = x.2;
        to_switch = good.leads_to_switch g x.0.to (contains_mapped (λ (y : Edge). y.to) (wires_at graph g) x.0 x.1);
      }

  pub leads_below : LeadToVertices (by_index graph)
  leads_below i e h =
      let w = wire_at i e h in
      let to : index w.wire.to ≡ e.to = ap (λ (y : Edge). y.to) w.same in
      omega (arith, index_within w.wire.to w.to_switch, to)

  -- a wire is an edge at the index of its switch
  pub edge_there : (g : ℕ) (e : Edge) → IsSwitch graph g → Contains (wires_at graph g) e
      → Contains (edges_at (by_index graph) (index g)) (positioned_edge guids e)
  edge_there g e is h =
      subst (λ (xs : List Edge). Contains xs (positioned_edge guids e)) (sym (rows (positioned_edge guids) graph g is))
      (contains_mapped (positioned_edge guids) (wires_at graph g) e h)

  head_there : (g h : ℕ) → IsSwitch graph g → Contains (neighbors graph g) h → Contains (heads (by_index graph) (index g)) (index h)
  head_there g h is n =
      let x = contains_map (λ (y : Edge). y.to) (wires_at graph g) h n in
      subst (λ (y : ℕ). Contains (heads (by_index graph) (index g)) y) (ap index x.2)
      (contains_mapped (λ (y : Edge). y.to) (edges_at (by_index graph) (index g)) (positioned_edge guids x.0) (edge_there g x.0 is x.1))

  pub there_and_back : IsSymmetric (by_index graph)
  there_and_back a b h =
      let x = contains_map (λ (y : Edge). y.to) (edges_at (by_index graph) a) b h in
      let w = wire_at a x.0 x.1 in
      let g = at_position guids a in
      let n = contains_mapped (λ (y : Edge). y.to) (wires_at graph g) w.wire w.there in
      let to : index w.wire.to ≡ b = ap (λ (y : Edge). y.to) w.same ∙ x.2 in
      let back = head_there w.wire.to g w.to_switch (good.both_ways g w.wire.to n) in
      subst (λ (y : ℕ). Contains (heads (by_index graph) y) a) to
      (subst (λ (y : ℕ). Contains (heads (by_index graph) (index w.wire.to)) y) (index_of_switch a w.below) back)

  walk_there : (n a b : ℕ) → IsSwitch graph a → Walk (neighbors graph) a b n → Walk (heads (by_index graph)) (index a) (index b) n
  walk_there zero a b is e = ap index e
  walk_there (suc n) a b is (c, h, w) = (index c, head_there a c is h, walk_there n c b (good.leads_to_switch a c h) w)

  -- within a component a walk leads from index to index
  pub walk_between : (s t : ℕ) → IsSwitch graph s → in_one_component graph s t ≡ true → (n : ℕ) × Walk (heads (by_index graph)) (index s) (index t) n
  walk_between s t is e =
      let d = is_some_of (distance graph s t) e in
      (d.0, walk_there d.0 s t is (walk_of graph good s t d.0 d.1))
