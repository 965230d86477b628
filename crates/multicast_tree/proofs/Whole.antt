-- Where masks are the tree of a rule, each adapter of the sender's component gets a copy.
use Rattle.std.proofs.Common.{◌≡◌, ◌≢◌, ◌<◌, ℕ, zero, suc, List, sym, ◌∙◌, subst, Bool, true, false, Option}
use Rattle.std.proofs.lemmas.Option.{same_Some}
use Rattle.std.specs.Prelude.{Some, Contains}
use Rattle.fact_store.specs.View.{Facts, cells_of}
use Rattle.port_graph.specs.Walks.{Walk}
use Rattle.subnet_view.specs.Reading.{Cells, is_switch_node, is_usable, switches}
use Rattle.subnet_view.specs.Wires.{across}
use Rattle.subnet_view.specs.SwitchEdges.{SwitchEdges}
use Rattle.subnet_view.specs.Graph.{edges_at, graph_of, neighbors}
use Rattle.subnet_view.specs.GraphLaws.{IsGraph, IsSwitch}
use Rattle.subnet_view.proofs.EdgeLists.{has_end}
use Rattle.subnet_view.proofs.Graphs.{edge_from_switch, edge_is_wire, edge_to_usable, graph_law, wire_is_edge}
use Rattle.port_graph.specs.declared.edge.Edge.{Edge}
use Rattle.port_graph.proofs.Lists.{contains_map}
use Rattle.std.proofs.lemmas.Bool.{and_parts}
use Rattle.subnet_view.proofs.GraphSwitches.{graph_guids, switch_usable, usable_switch}
use Rattle.plan_order.specs.PlanOrder.{positions_by}
use Rattle.multicast_tree.specs.Copies.{CopyGoes, Copying}
use Rattle.multicast_tree.specs.Tree.{copying_in, is_tree_port, parent_port, position_in, tree_by}
use Rattle.multicast_tree.specs.TreeLaws.{EachGetsACopy, IsWhole}
use Rattle.multicast_tree.proofs.Ordered.{AreOrdered, rules_order}
use Rattle.multicast_tree.specs.Forest.{IsAttachedAt, IsJoined, IsWholeForest, WiresLead}
use Rattle.multicast_tree.proofs.Reached.{end_reached}
use Rattle.multicast_tree.proofs.TreePorts.{down_passes, listed, out_passes, up_passes}
use Rattle.multicast_tree.proofs.Trees.{attached_is, first_is, has_first, parent_up, tree_is_forest}

module _ (facts : Facts) (position : ℕ → ℕ) (group : ℕ → ℕ → Bool) (ordered : AreOrdered (graph_of (cells_of facts)) position)
    (whole : IsWhole (tree_by (cells_of facts) (parent_port (graph_of (cells_of facts)) position)) group) where
  abbrev cells : Cells
  cells = cells_of facts

  abbrev graph : List SwitchEdges
  graph = graph_of (cells_of facts)

  abbrev good : IsGraph (graph_of (cells_of facts))
  good = graph_law facts

  abbrev parent : ℕ → Option ℕ
  parent = parent_port (graph_of (cells_of facts)) position

  abbrev by : Copying
  by = copying_in (cells_of facts) group

  in_graph : (g : ℕ) → is_usable cells g ≡ true → IsSwitch graph g
  in_graph g u = subst (λ (xs : List ℕ). Contains xs g) (sym (graph_guids cells)) (usable_switch facts g u)

  -- a port with a wire is in the masks if it is in the tree
  has_port : (g p : ℕ) (q : ℕ × ℕ) → is_usable cells g ≡ true → across cells g p ≡ Some q → is_tree_port cells parent g p ≡ true → group g p ≡ true
  has_port g p q u w is = (whole g p).1 (listed cells parent g p q (usable_switch facts g u) w is)

  up_there : (g p : ℕ) → is_usable cells g ≡ true → parent g ≡ Some p → group g p ≡ true
  up_there g p u e = let i = parent_up cells position g p e in has_port g p (i.parent, i.port) u i.wire (up_passes cells parent g p e)

  down_there : (g p h q : ℕ) → is_usable cells g ≡ true → across cells g p ≡ Some (h, q) → parent h ≡ Some q → group g p ≡ true
  down_there g p h q u w e = has_port g p (h, q) u w (down_passes cells parent g p h q w e)

  out_there : (g p h q : ℕ) → is_usable cells g ≡ true → across cells g p ≡ Some (h, q) → is_usable cells h ≡ false → group g p ≡ true
  out_there g p h q u w leaf = has_port g p (h, q) u w (out_passes cells parent g p h q w leaf)

  to_switch : (g p h q : ℕ) → parent g ≡ Some p → across cells g p ≡ Some (h, q) → is_usable cells h ≡ true
  to_switch g p h q e w =
      let i = parent_up cells position g p e in
      let k : ◌≡◌ {A = ℕ × ℕ} (i.parent, i.port) (h, q) = same_Some (i.parent, i.port) (h, q) (sym i.wire ∙ w) in
      subst (λ (x : ℕ × ℕ). is_usable cells x.0 ≡ true) k i.is_switch

  -- wires over switches are edges of the graph
  walk_there : (n g h : ℕ) → is_usable cells g ≡ true → WiresLead by g h n → Walk (neighbors graph) g h n × (is_usable cells h ≡ true)
  walk_there zero g h u e = (e, subst (λ (x : ℕ). is_usable cells x ≡ true) e u)
  walk_there (suc n) g h u (p, far, w, uf, rest) =
      let there = wire_is_edge cells g p far.0 (usable_switch facts g u)
      (record { end_port = far.1; wire = w; is_switch = (and_parts (is_switch_node cells far.0) _ uf).0 }) in
      let i = walk_there n far.0 h uf rest in
      ((far.0, has_end (edges_at graph g) (record { port = p; to = far.0 }) there, i.0), i.1)

  wires_there : (n g h : ℕ) → Walk (neighbors graph) g h n → WiresLead by g h n
  wires_there zero g h e = e
  wires_there (suc n) g h (c, next, walk) =
      let x = contains_map (λ (y : Edge). y.to) (edges_at graph g) c next in
      let w = edge_is_wire cells g x.0 x.1 in (
        x.0.port,
        (x.0.to, w.end_port),
        w.wire,
        edge_to_usable cells g x.0.port x.0.to w,
        wires_there n x.0.to h (subst (λ (y : ℕ). Walk (neighbors graph) y h n) (sym x.2) walk),
      )

  climbs : (g v : ℕ) → IsJoined by g v → position v < position g
      → (p : ℕ) × (far : ℕ × ℕ) × (parent g ≡ Some p) × (across cells g p ≡ Some far)
  climbs g v j l =
      let walk = walk_there j.length g v j.at_switch j.wires in
      let e = ordered.earlier g v j.length (in_graph g j.at_switch) (in_graph v walk.1) walk.0 l in
      let f = has_first position (position g) (edges_at graph g) e.0 e.1 e.2 in
      let i = parent_up cells position g f.0 f.1 in
      (f.0, (i.parent, i.port), f.1, i.wire)

  -- only switches have parents
  from_switch : (g p : ℕ) → parent g ≡ Some p → is_usable cells g ≡ true
  from_switch g p e =
      let i = first_is position (position g) (edges_at graph g) p e in
      switch_usable facts g (edge_from_switch cells g i.edge i.there)

  whole_forest : IsWholeForest by parent position
  whole_forest =
      record {
        within = tree_is_forest cells position group (λ g p h. (whole g p).0 h);
        from_switch = from_switch;
        to_switch = to_switch;
        all_up = up_there;
        all_down = down_there;
        all_out = out_there;
        apart = λ g h j e. ordered.apart g h (in_graph g j.at_switch) (in_graph h (walk_there j.length g h j.at_switch j.wires).1) e;
        climbs = climbs;
      }

  pub gets_copy : (sender receiver at there : ℕ × ℕ) (n : ℕ) → sender ≢ receiver → IsAttachedAt by sender at → IsAttachedAt by receiver there
      → Walk (neighbors graph) at.0 there.0 n → (ports : List ℕ) × CopyGoes by at ports receiver
  gets_copy sender receiver at there n apart s r w =
      end_reached by parent position whole_forest sender receiver at there apart s r
      (record { at_switch = s.at_switch; length = n; wires = wires_there n at.0 there.0 w })

pub each_gets_a_copy : EachGetsACopy
each_gets_a_copy rule facts group whole sender receiver at there n apart a b w =
    gets_copy facts (position_in (switches (cells_of facts)) (positions_by rule (cells_of facts))) group (rules_order rule facts) whole
    sender receiver at there n apart (attached_is (cells_of facts) group sender at a) (attached_is (cells_of facts) group receiver there b) w
