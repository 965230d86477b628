-- The switches at the positions of the grown order: each has its position, and its wires are the edges there.
use Rattle.std.proofs.Common.{◌≡◌, ◌<◌, ℕ, suc, List, [], ◌∷◌, refl, sym, ap, ◌∙◌, subst, arith, true, false, cond, ◌==◌, map, length}
use Rattle.std.proofs.lemmas.Bool.{eqb-true}
use Rattle.std.specs.Prelude.{Contains}
use Rattle.smp_bytes.proofs.Members.{contains_here, contains_later}
use Rattle.port_graph.specs.declared.edge.Edge.{Edge}
use Rattle.port_graph.specs.Heads.{edges_at}
use Rattle.port_graph.proofs.Counts.{length_map}
use Rattle.spread_labels.specs.declared.key_order.VertexKey.{VertexKey}
use Rattle.spread_labels.specs.LabelLaws.{IsGrownGraph}
use Rattle.spread_labels.specs.Orders.{at_position, position_of, positioned_edge, IsGrownOrder}
use Rattle.spread_labels.specs.KeyOrder.{before_by}
use Rattle.spread_labels.proofs.ByPositions.{orders_in_words, position_less, position_at, leads}
use Rattle.subnet_view.specs.SwitchEdges.{SwitchEdges}
use Rattle.subnet_view.specs.Graph.{guids_of}
use Rattle.subnet_view.specs.Graph.{edges_at as wires_at}
use Rattle.subnet_view.specs.GraphLaws.{IsGraph, IsSwitch}
use Rattle.spread_routes.specs.Rule.{by_index, by_positions, order_by_keys, position, switch_there}
use Rattle.spread_routes.proofs.Indices.{as_many, leads_below, there_and_back, wire_at, index_within, switch_of_index, index_of_switch}

-- what has a position among some numbers is one of them
position_inside : (xs : List ℕ) (x : ℕ) → position_of xs x < length xs → Contains xs x
position_inside [] x = λ h. absurd (omega arith)
position_inside (y ∷ ys) x =
    elim (y == x) as (λ b. (y == x) ≡ b → cond b 0 (suc (position_of ys x)) < suc (length ys) → Contains (y ∷ ys) x) [
      | true ↦ λ q h. subst (λ (z : ℕ). Contains (y ∷ ys) z) (eqb-true y x q) (contains_here y ys)
      | false ↦ λ q h. contains_later y x ys (position_inside ys x (omega arith))
    ] refl

same_edge : (e : Edge) (port to : ℕ) → e.port ≡ port → e.to ≡ to → e ≡ record { port = port; to = to }
same_edge e port to a b = λ j. record { port = a j; to = b j }

module _ (graph : List SwitchEdges) (keys : List VertexKey) (good : IsGraph graph) where
  abbrev positions : List ℕ
  positions = order_by_keys graph keys

  pub grows : IsGrownOrder (by_index graph) positions
  grows = (orders_in_words (by_index graph) (before_by keys) (leads_below graph good) (there_and_back graph good)).is_grown

  pub is_grown_graph : IsGrownGraph (by_positions graph keys)
  is_grown_graph = (orders_in_words (by_index graph) (before_by keys) (leads_below graph good) (there_and_back graph good)).graph

  pub all_positioned : length (by_positions graph keys) ≡ length positions
  all_positioned = length_map (λ (s : ℕ). map (positioned_edge positions) (edges_at (by_index graph) s)) positions

  -- the position of a switch is a position, and has the switch
  pub position_within : (g : ℕ) → IsSwitch graph g → position graph keys g < length (by_positions graph keys)
  position_within g is =
      omega (
        arith,
        (position_less positions (position_of (guids_of graph) g) (grows.all (position_of (guids_of graph) g) (index_within graph good g is))).0,
        all_positioned,
      )

  pub switch_at_position : (g : ℕ) → IsSwitch graph g → switch_there graph keys (position graph keys g) ≡ g
  switch_at_position g is =
      ap (at_position (guids_of graph))
      (position_less positions (position_of (guids_of graph) g) (grows.all (position_of (guids_of graph) g) (index_within graph good g is))).1
      ∙ switch_of_index graph good g is

  index_below : (p : ℕ) → p < length (by_positions graph keys) → at_position positions p < length (guids_of graph)
  index_below p h = omega (arith, grows.vertex p (omega (arith, all_positioned)), as_many graph good)

  -- the switch at a position has that position
  pub position_of_switch : (p : ℕ) → p < length (by_positions graph keys) → position graph keys (switch_there graph keys p) ≡ p
  position_of_switch p h =
      ap (position_of positions) (index_of_switch graph good (at_position positions p) (index_below p h))
      ∙ position_at positions grows.once p (omega (arith, all_positioned))

  -- what has a position is a switch
  pub switch_inside : (g : ℕ) → position graph keys g < length (by_positions graph keys) → IsSwitch graph g
  switch_inside g h =
      let i = position_inside positions (position_of (guids_of graph) g) (omega (arith, all_positioned)) in
      let at = position_less positions (position_of (guids_of graph) g) i in
      let below = grows.vertex (position_of positions (position_of (guids_of graph) g)) at.0 in
      position_inside (guids_of graph) g (omega (arith, below, at.1, as_many graph good))

  -- an edge by the switch at its position
  abbrev pub named : Edge → Edge
  named e = record { port = e.port; to = switch_there graph keys e.to }

  -- an edge at a position is a wire of the switch there
  pub record IsNamed (p : ℕ) (e : Edge) : Type 0 where
    pub within : p < length (by_positions graph keys)
    pub to_within : e.to < length (by_positions graph keys)
    pub wire : Contains (wires_at graph (switch_there graph keys p)) (named e)

  pub is_named : (p : ℕ) (e : Edge) → Contains (edges_at (by_positions graph keys) p) e → IsNamed p e
  is_named p e h =
      let l = leads (by_index graph) positions (leads_below graph good) (there_and_back graph good) grows p e h in
      let w = wire_at graph good (at_position positions p) l.edge l.there in
      let port : w.wire.port ≡ e.port = ap (λ (y : Edge). y.port) w.same ∙ ap (λ (y : Edge). y.port) l.same in
      let index : position_of (guids_of graph) w.wire.to ≡ at_position positions e.to = ap (λ (y : Edge). y.to) w.same ∙ sym l.to in
      let to : w.wire.to ≡ switch_there graph keys e.to = sym (switch_of_index graph good w.wire.to w.to_switch) ∙ ap (at_position (guids_of graph)) index in
      record {
        within = omega (arith, l.position, all_positioned);
        to_within = omega (arith, l.within, all_positioned);
        wire = subst (λ (y : Edge). Contains (wires_at graph (switch_there graph keys p)) y) (same_edge w.wire e.port (switch_there graph keys e.to) port to)
            w.there;
      }
