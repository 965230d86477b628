-- The graph read off facts is a graph: its wires go both ways, between usable switches.
use Rattle.std.proofs.Common.{◌≡◌, ◌≤◌, ◌<◌, ◌+◌, ◌-◌, ◌⊎◌, ℕ, List, [], ◌∷◌, inl, inr, refl, sym, ap, ◌∙◌, subst, arith, true, false, cond, ◌==◌, ◌&&◌, map}
use Rattle.std.proofs.lemmas.Option.{cond_some, option_and_then_some}
use Rattle.std.proofs.lemmas.List.FromFn.{length-range_with_len, get_or-range_with_len}
use Rattle.std.proofs.lemmas.Bool.{eqb-true, eqb-false, leb-true, and_parts}
use Rattle.std.specs.Prelude.{Option, None, Some, Contains, nat_le, option_and_then, is_some}
use Rattle.std.specs.List.Sorted.{IsStrictlyIncreasing}
use Rattle.std.specs.List.{range_with_len}
use Rattle.fact_store.specs.View.{Facts, cells_of}
use Rattle.smp_bytes.proofs.Members.{contains_here, contains_later, contains_cases, contains_none}
use Rattle.port_graph.specs.declared.edge.Edge.{Edge}
use Rattle.port_graph.proofs.Lists.{contains_map, contains_filter_map, contains-from_filter_map}
use Rattle.reply_facts.specs.Known.{cap_of}
use Rattle.subnet_view.specs.Reading.{Cells, is_switch_node, port_count_of, is_usable, is_up, is_port_of, switches}
use Rattle.subnet_view.specs.EndPort.{is_end_port}
use Rattle.subnet_view.specs.Wires.{across, is_wire_end}
use Rattle.subnet_view.specs.Graph.{edge_at, edges_of, graph_of, edges_at, neighbors}
use Rattle.subnet_view.specs.GraphLaws.{GraphLaw, EdgeLaw}
use Rattle.subnet_view.proofs.WireEnds.{linked, across_back}
use Rattle.subnet_view.proofs.WireLaws.{wire_law}
use Rattle.subnet_view.proofs.EdgeLists.{has_end}
use Rattle.subnet_view.proofs.PortsRise.{edges_rise}
use Rattle.subnet_view.proofs.GraphSwitches.{switches_rise, switch_usable, usable_switch, graph_guids}

-- the numbers from `start` on, so many
in_range : (n start p : ℕ) → start ≤ p → p < start + n → Contains (range_with_len start n) p
in_range n start p l h = (p - start, omega (arith, length-range_with_len start n), get_or-range_with_len start n (p - start) p (omega arith) ∙ omega arith)

-- a wire from port p of g to the switch h
pub record IsEdge (cells : Cells) (g p h : ℕ) : Type 0 where
  pub end_port : ℕ
  pub wire : across cells g p ≡ Some (h, end_port)
  pub is_switch : is_switch_node cells h ≡ true

edge_by : (cells : Cells) (g p : ℕ) (e : Edge) (q : ℕ × ℕ) → across cells g p ≡ Some q
    → cond (is_switch_node cells q.0) (Some (record { port = p; to = q.0 })) None ≡ Some e → IsEdge cells g e.port e.to
edge_by cells g p e q w k =
    let c = cond_some {A = Edge} (is_switch_node cells q.0) (record { port = p; to = q.0 }) e k in
    let there : IsEdge cells g p q.0 = record { end_port = q.1; wire = w; is_switch = c.0 } in
    subst (λ (x : Edge). IsEdge cells g x.port x.to) c.1 there

edge_is : (cells : Cells) (g p : ℕ) (e : Edge) → edge_at cells g p ≡ Some e → IsEdge cells g e.port e.to
edge_is cells g p e h =
    let edge : ℕ × ℕ → Option Edge = λ q. cond (is_switch_node cells q.0) (Some (record { port = p; to = q.0 })) None in
    option_and_then_some edge (across cells g p) e h (edge_by cells g p e)

-- what is said of the port at which a wire ends
pub record IsWireEnd (cells : Cells) (g p : ℕ) : Type 0 where
  pub is_port : (1 ≤ p) × (p ≤ port_count_of cells g)
  pub usable : is_switch_node cells g ≡ true → is_usable cells g ≡ true

-- where a wire can end is a port, and usable where it is a switch's
pub wire_end : (cells : Cells) (g p : ℕ) → is_wire_end cells g p ≡ true → IsWireEnd cells g p
wire_end cells g p h =
    let a = and_parts (is_up cells g p && is_port_of cells g p) (cond (is_switch_node cells g) (is_usable cells g) (is_end_port cells g p)) h in
    let b = and_parts (nat_le 1 p) (nat_le p (port_count_of cells g)) (and_parts (is_up cells g p) (is_port_of cells g p) a.0).1 in
    record {
      is_port = (leb-true 1 p b.0, leb-true p (port_count_of cells g) b.1);
      usable = λ s. ap (λ t. cond t (is_usable cells g) (is_end_port cells g p)) (sym s) ∙ a.1;
    }

-- it leads to a usable switch
pub edge_to_usable : (cells : Cells) (g p h : ℕ) → IsEdge cells g p h → is_usable cells h ≡ true
edge_to_usable cells g p h x = (wire_end cells h x.end_port (linked cells g p (h, x.end_port) x.wire).there).usable x.is_switch

-- the edges that a list of switches gives one of them
pub data EdgesAt (cells : Cells) (gs : List ℕ) (a : ℕ) : Type 0 where
  at_switch : Contains gs a → edges_at (map (λ g. record { guid = g; edges = edges_of cells g }) gs) a ≡ edges_of cells a → EdgesAt cells gs a
  elsewhere : (Contains gs a → ⊥) → edges_at (map (λ g. record { guid = g; edges = edges_of cells g }) gs) a ≡ [] → EdgesAt cells gs a

-- a switch of the list has its edges, and what is none has no edges
pub edges_listed : (cells : Cells) (gs : List ℕ) (a : ℕ) → EdgesAt cells gs a
edges_listed cells [] a = elsewhere (λ h. contains_none a h) refl
edges_listed cells (g ∷ gs) a =
    let rest = edges_at (map (λ g. record { guid = g; edges = edges_of cells g }) gs) a in
    elim (g == a) as (λ t. (g == a) ≡ t → EdgesAt cells (g ∷ gs) a) [
      | true ↦ λ p. let i = eqb-true g a p in
          at_switch (subst (λ (x : ℕ). Contains (g ∷ gs) x) i (contains_here g gs)) (ap (λ t. cond t (edges_of cells g) rest) p ∙ ap (edges_of cells) i)
      | false ↦ λ p. (elim (edges_listed cells gs a) [
        | at_switch h e ↦ at_switch (contains_later g a gs h) (ap (λ t. cond t (edges_of cells g) rest) p ∙ e)
        | elsewhere h e ↦ elsewhere (λ k. not_there g gs a p h (contains_cases g a gs k)) (ap (λ t. cond t (edges_of cells g) rest) p ∙ e)
      ])
    ] refl
  where
    not_there : (g : ℕ) (gs : List ℕ) (a : ℕ) → (g == a) ≡ false → (Contains gs a → ⊥) → (g ≡ a) ⊎ Contains gs a → ⊥
    not_there g gs a p h (inl i) = eqb-false g a p i
    not_there g gs a p h (inr k) = h k

ports_rise : (cells : Cells) (a : ℕ) → IsStrictlyIncreasing (map (λ e. e.port) (edges_at (graph_of cells) a))
ports_rise cells a =
    elim (edges_listed cells (switches cells) a) [
      | at_switch h e ↦ subst (λ (xs : List Edge). IsStrictlyIncreasing (map (λ e. e.port) xs)) (sym e) (edges_rise cells a)
      | elsewhere h e ↦ subst (λ (xs : List Edge). IsStrictlyIncreasing (map (λ e. e.port) xs)) (sym e) (λ k h. absurd (omega arith))
    ]

-- an edge of the graph is a wire to a switch
pub edge_is_wire : (cells : Cells) (g : ℕ) (e : Edge) → Contains (edges_at (graph_of cells) g) e → IsEdge cells g e.port e.to
edge_is_wire cells g e h =
    elim (edges_listed cells (switches cells) g) [
      | at_switch k same ↦
          let i = contains-from_filter_map (edge_at cells g) (range_with_len 1 (port_count_of cells g)) e (subst (λ (xs : List Edge). Contains xs e) same h) in
          edge_is cells g i.0 e i.2
      | elsewhere k none ↦ absurd (contains_none e (subst (λ (xs : List Edge). Contains xs e) none h))
    ]

-- and out of one
pub edge_from_switch : (cells : Cells) (g : ℕ) (e : Edge) → Contains (edges_at (graph_of cells) g) e → Contains (switches cells) g
edge_from_switch cells g e h =
    elim (edges_listed cells (switches cells) g) [
      | at_switch k same ↦ k
      | elsewhere k none ↦ absurd (contains_none e (subst (λ (xs : List Edge). Contains xs e) none h))
    ]

-- a wire between switches is an edge of the graph
pub wire_is_edge : (cells : Cells) (g p h : ℕ) → Contains (switches cells) g → IsEdge cells g p h
    → Contains (edges_at (graph_of cells) g) (record { port = p; to = h })
wire_is_edge cells g p h k x =
    let e : Edge = record { port = p; to = h } in
    let w = wire_end cells g p (linked cells g p (h, x.end_port) x.wire).here in
    let listed = in_range (port_count_of cells g) 1 p w.is_port.0 (omega (arith, w.is_port.1)) in
    let edge : ℕ × ℕ → Option Edge = λ q. cond (is_switch_node cells q.0) (Some (record { port = p; to = q.0 })) None in
    let there : edge_at cells g p ≡ Some e = ap (option_and_then edge) x.wire ∙ ap (λ t. cond t (Some e) None) x.is_switch in
    elim (edges_listed cells (switches cells) g) [
      | at_switch i same ↦
          subst (λ (xs : List Edge). Contains xs e) (sym same) (contains_filter_map (edge_at cells g) (range_with_len 1 (port_count_of cells g)) p e listed
          there)
      | elsewhere none i ↦ absurd (none k)
    ]

-- an edge of one switch to another
record Crossed (cells : Cells) (a b : ℕ) : Type 0 where
  from : Contains (switches cells) a
  port : ℕ
  edge : IsEdge cells a port b

module _ (facts : Facts) where
  abbrev cells : Cells
  cells = cells_of facts

  crossed : (a b : ℕ) → Contains (neighbors (graph_of cells) a) b → Crossed cells a b
  crossed a b h =
      let x = contains_map (λ (e : Edge). e.to) (edges_at (graph_of cells) a) b h in
      let edge = subst (λ (y : ℕ). IsEdge cells a x.0.port y) x.2 (edge_is_wire cells a x.0 x.1) in
      record { from = edge_from_switch cells a x.0 x.1; port = x.0.port; edge = edge }

  crosses : (a b : ℕ) → Crossed cells a b → Contains (neighbors (graph_of cells) a) b
  crosses a b c = has_end (edges_at (graph_of cells) a) (record { port = c.port; to = b }) (wire_is_edge cells a c.port b c.from c.edge)

  end_switch : (a b : ℕ) → Crossed cells a b → Contains (switches cells) b
  end_switch a b c = usable_switch facts b (edge_to_usable cells a c.port b c.edge)

  turned : (a b : ℕ) → Crossed cells a b → Crossed cells b a
  turned a b c =
      let s = and_parts (is_switch_node cells a) (is_some (cap_of cells a)) (switch_usable facts a c.from) in
      let back : IsEdge cells b c.edge.end_port a =
      record { end_port = c.port; wire = across_back cells a c.port (b, c.edge.end_port) c.edge.wire; is_switch = s.0 } in
      record { from = end_switch a b c; port = c.edge.end_port; edge = back }

-- what facts give is a graph
pub graph_law : GraphLaw
graph_law facts =
    let cells = cells_of facts in
    record {
      rising = switches_rise facts;
      ports_rise = ports_rise cells;
      leads_to_switch = λ a b h. subst (λ (xs : List ℕ). Contains xs b) (sym (graph_guids cells)) (end_switch facts a b (crossed facts a b h));
      both_ways = λ a b h. crosses facts b a (turned facts a b (crossed facts a b h));
    }

-- its edges are the wires among usable switches
pub edge_law : EdgeLaw
edge_law facts g p h u = let cells = cells_of facts in (
  λ there.
      let x = edge_is_wire cells g (record { port = p; to = h }) there in
      (edge_to_usable cells g p h x, (x.end_port, (wire_law cells g p h x.end_port).0 x.wire)),
  λ (usable, (q, w)).
      let s = and_parts (is_switch_node cells h) (is_some (cap_of cells h)) usable in
      wire_is_edge cells g p h (usable_switch facts g u) (record { end_port = q; wire = (wire_law cells g p h q).1 w; is_switch = s.0 }),
)
