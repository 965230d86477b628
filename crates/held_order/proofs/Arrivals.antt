-- The switches over which a packet arrives.
use Rattle.std.proofs.Common.{◌≡◌, ◌∙◌, ◌<◌, ℕ, zero, suc, Bool, true, false, cond, List, [], length, Option, None, Some, refl, sym, ap, subst, arith, inl, inr}
use Rattle.std.specs.Prelude.{Contains, ◌==◌, slice_index_or}
use Rattle.std.proofs.lemmas.Bool.{and_parts, cases_lt}
use Rattle.std.proofs.lemmas.List.{get_or_past}
use Rattle.std.proofs.lemmas.List.FromFn.{get_or-map-range_with_len, length-map-range_with_len}
use Rattle.std.proofs.lemmas.Option.{same_Some}
use Rattle.fact_store.specs.View.{Facts, cells_of}
use Rattle.port_graph.specs.declared.edge.Edge.{Edge}
use Rattle.port_graph.specs.Heads.{edges_at, heads}
use Rattle.port_graph.specs.Walks.{Walk}
use Rattle.port_graph.proofs.Lists.{contains_mapped}
use Rattle.subnet_view.specs.declared.end_port.EndPort.{EndPort}
use Rattle.subnet_view.specs.Reading.{Cells, is_switch_node, switches}
use Rattle.subnet_view.specs.Graph.{graph_of, guids_of}
use Rattle.subnet_view.specs.GraphLaws.{IsGraph, IsSwitch}
use Rattle.subnet_view.specs.Wires.{across}
use Rattle.subnet_view.proofs.Graphs.{graph_law, wire_is_edge}
use Rattle.subnet_view.proofs.GraphSwitches.{graph_guids, switch_usable}
use Rattle.spread_labels.specs.Orders.{at_position, position_of, positioned_edge}
use Rattle.spread_labels.proofs.Growing.{contains_at as vertex_at}
use Rattle.spread_routes.proofs.Indices.{edge_there, index_of_switch}
use Rattle.held_tables.specs.Held.{HeldPlan}
use Rattle.held_tables.specs.declared.far_end.Far.{Far}
use Rattle.held_tables.specs.declared.far_end.Far.TheVariants.{Nothing, Switch, Port}
use Rattle.held_tables.specs.Switches.{far_at, far_of, far_to, index_in, row_of}
use Rattle.held_tables.specs.Tables.{entry_for, is_owner, owners_of}
use Rattle.plan_tables.proofs.HeldTables.{within_length}
use Rattle.packet_walks.specs.declared.cause.Cause.{Cause}
use Rattle.packet_walks.specs.declared.cause.Cause.TheVariants.{Foreign}
use Rattle.packet_walks.specs.declared.packet_end.End.TheVariants.{Lost, Taken}
use Rattle.packet_walks.specs.declared.next_hop.NextHop.{NextHop}
use Rattle.packet_walks.specs.declared.next_hop.NextHop.TheVariants.{To, Ends}
use Rattle.packet_walks.specs.HopsByTables.{cause_of, next_hops_of, over}
use Rattle.packet_walks.specs.EndsBySwitch.{after}
use Rattle.packet_walks.proofs.Ended.{after_ended}
use Rattle.packet_walks.proofs.EntrySteps.{contains_at, leaves}
use Rattle.next_tables.specs.SwitchPositions.{Leads, switch_at}
use Rattle.next_tables.specs.SettledRule.{step_at}
use Rattle.next_tables.proofs.Entries.{at_mapped, member}
use Rattle.next_tables.proofs.Hops.{edge_at, leads_from, leads_within, placed, to_within}
use Rattle.next_tables.proofs.Mixtures.{at}
use Rattle.next_tables.proofs.Steps.{at_index}
use Rattle.held_order.specs.Agreement.{ComeTo}
use Rattle.held_order.specs.Orders.{edges_in}
use Rattle.held_order.proofs.GoalEntries.{index_is}

-- what forwards packets has a wire
module _ (facts : Facts) (tables : HeldPlan) (lid i j : ℕ) (l : Leads (cells_of facts) tables lid i j) where
  pub wired_head : Contains (heads (edges_in (cells_of facts)) i) j
  wired_head =
      let cells = cells_of facts in
      let gs = switches cells in
      let graph = graph_of cells in
      let good : IsGraph graph = graph_law facts in
      let guids = guids_of graph in
      let same : guids ≡ gs = graph_guids cells in
      let as_many = ap (λ (xs : List ℕ). length xs) same in
      let g = switch_at cells i in
      let i_in = leads_within cells tables lid i j l in
      let entry = entry_for tables lid g in
      let out = leaves cells g entry (record { port = entry; to = j }) (edge_at cells tables lid i j l) in
      let h = out.end.0 in
      let e : Edge = record { port = entry; to = h } in
      let usable = switch_usable facts h (contains_at gs j h out.index) in
      let edge = wire_is_edge cells g entry h (member gs i i_in)
      (record { end_port = out.end.1; wire = out.wire; is_switch = (and_parts (is_switch_node cells h) _ usable).0 }) in
      let i_below : i < length guids = omega (arith, i_in, as_many) in
      let j_below : j < length guids = omega (arith, within_length gs j h out.index, as_many) in
      let from : at_position guids i ≡ g = ap (λ (xs : List ℕ). at_position xs i) same in
      let to : at_position guids j ≡ h = ap (λ (xs : List ℕ). at_position xs j) same ∙ at_index gs j h 0 out.index in
      let is_g : IsSwitch graph g = subst (λ (x : ℕ). IsSwitch graph x) from (vertex_at guids i i_below) in
      let index_g : position_of guids g ≡ i = ap (position_of guids) (sym from) ∙ index_of_switch graph good i i_below in
      let index_h : position_of guids h ≡ j = ap (position_of guids) (sym to) ∙ index_of_switch graph good j j_below in
      let there = contains_mapped (λ (y : Edge). y.to) (edges_at (edges_in cells) (position_of guids g)) (positioned_edge guids e)
      (edge_there graph good g e is_g edge) in
      subst (λ (x : ℕ × ℕ). Contains (heads (edges_in cells) x.0) x.1) (λ k. (index_g k, index_h k)) there

-- the switches on the way of a packet that arrives at a port
module _ (facts : Facts) (tables : HeldPlan) (lid : ℕ) (port : EndPort) where
  -- the last switch on the way from switch i
  pub record ArrivesAt (i : ℕ) : Type 0 where
    pub last : ℕ
    pub within : last < length (switches (cells_of facts))
    pub long : ℕ
    pub comes : ComeTo (cells_of facts) tables lid long i last
    pub ends : step_at (cells_of facts) tables lid (switch_at (cells_of facts) last) ≡ Ends (Taken port)

  pub arrives_at : (k i : ℕ) → i < length (switches (cells_of facts))
      → after k (next_hops_of (cells_of facts) tables lid) (To i) ≡ Ends (Taken port) → ArrivesAt i
  arrives_at zero i less h = absurd (cc)
  arrives_at (suc k) i less h =
      let cells = cells_of facts in
      let hops = next_hops_of cells tables lid in
      let hop = step_at cells tables lid (switch_at cells i) in
      let here : at hops i ≡ hop = at_mapped (step_at cells tables lid) (switches cells) i (To i) less in
      on (arrives_at k) hop refl (sym (ap (after k hops) here) ∙ h)
    where
      on : ((j : ℕ) → j < length (switches (cells_of facts)) → after k (next_hops_of (cells_of facts) tables lid) (To j) ≡ Ends (Taken port) → ArrivesAt j)
          → (s : NextHop) → step_at (cells_of facts) tables lid (switch_at (cells_of facts) i) ≡ s
          → after k (next_hops_of (cells_of facts) tables lid) s ≡ Ends (Taken port) → ArrivesAt i
      on later (Ends e) is_s h =
          record {
            last = i;
            within = less;
            long = 0;
            comes = refl;
            ends = is_s ∙ sym (after_ended k (next_hops_of (cells_of facts) tables lid) e) ∙ h;
          }
      on later (To j) is_s h =
          let rest = later j (to_within (cells_of facts) tables lid (switch_at (cells_of facts) i) j is_s) h in
          record {
            last = rest.last;
            within = rest.within;
            long = suc rest.long;
            comes = (j, leads_from (cells_of facts) tables lid i j less is_s, rest.comes);
            ends = rest.ends;
          }

  -- wires lead the same way
  pub walk_of : (n i j : ℕ) → ComeTo (cells_of facts) tables lid n i j → Walk (heads (edges_in (cells_of facts))) i j n
  walk_of zero i j same = same
  walk_of (suc n) i j (x, l, rest) = (x, wired_head facts tables lid i x l, walk_of n x j rest)

-- a wire to another port leads to no usable switch
port_of_none : (q : ℕ × ℕ) (o : Option ℕ) (e : EndPort) → far_at q o ≡ Port e → (o ≡ None) × (e.node ≡ q.0)
port_of_none q None e h =
    let same : record { node = q.0; port = q.1 } ≡ e = cc in
    (refl, sym (ap (λ (x : EndPort). x.node) same))
port_of_none q (Some index) e h = absurd (cc)

far_is_none : (gs : List ℕ) (o : Option (ℕ × ℕ)) (e : EndPort) → far_to gs o ≡ Port e → index_in gs e.node ≡ None
far_is_none gs None e h = absurd (cc)
far_is_none gs (Some q) e h =
    let is = port_of_none q (index_in gs q.0) e h in
    ap (index_in gs) is.1 ∙ is.0

row_is_none : (cells : Cells) (g p : ℕ) (e : EndPort) → slice_index_or (row_of cells g) p Nothing ≡ Port e → index_in (switches cells) e.node ≡ None
row_is_none cells g p e h =
    elim (cases_lt p 255) [
      | inl less ↦ far_is_none (switches cells) (across cells g p) e
          (sym (get_or-map-range_with_len (far_of cells g) 0 255 p p Nothing less (omega arith)) ∙ h)
      | inr past ↦
          let none : slice_index_or (row_of cells g) p Nothing ≡ Nothing =
          get_or_past (row_of cells g) p Nothing (omega (arith, past, length-map-range_with_len (far_of cells g) 0 255)) in
          absurd (cc)
    ]

taken_is : (owner : Bool) (e x : EndPort) → Ends (cond owner (Taken e) (Lost e.node Foreign)) ≡ Ends (Taken x) → e ≡ x
taken_is true e x h = cc
taken_is false e x h = absurd (cc)

over_taken : (owners : List EndPort) (g : ℕ) (cause : Cause) (far : Far) (x : EndPort) → over owners g cause far ≡ Ends (Taken x) → far ≡ Port x
over_taken owners g cause Nothing x h = absurd (cc)
over_taken owners g cause (Switch index) x h = absurd (cc)
over_taken owners g cause (Port e) x h = ap Port (taken_is (is_owner owners e) e x h)

-- only the switch itself sends packets straight to its own port
module _ (facts : Facts) (tables : HeldPlan) (lid i j : ℕ) (i_in : i < length (switches (cells_of facts))) (j_in : j < length (switches (cells_of facts))) where
  abbrev own_port : EndPort
  own_port = record { node = switch_at (cells_of facts) j; port = 0 }

  index_at : (x : ℕ) → x < length (switches (cells_of facts)) → index_in (switches (cells_of facts)) (switch_at (cells_of facts) x) ≡ Some x
  index_at x less = index_is facts tables tables [] x (switch_at (cells_of facts) x) (placed (switches (cells_of facts)) x less)

  same_switch : switch_at (cells_of facts) i ≡ switch_at (cells_of facts) j → i ≡ j
  same_switch e = same_Some i j (sym (index_at i i_in) ∙ ap (index_in (switches (cells_of facts))) e ∙ index_at j j_in)

  by_test : (zero_entry : Bool) (far : Far) → (far ≡ Port own_port → ⊥)
      → cond zero_entry (Ends (Taken (record { node = switch_at (cells_of facts) i; port = 0 })))
      (over (owners_of tables lid) (switch_at (cells_of facts) i) (cause_of (cells_of facts) tables lid (switch_at (cells_of facts) i)) far)
      ≡ Ends (Taken own_port) → i ≡ j
  by_test true far never h =
      let same = taken_is true (record { node = switch_at (cells_of facts) i; port = 0 }) own_port h in
      same_switch (ap (λ (x : EndPort). x.node) same)
  by_test false far never h =
      absurd (never (over_taken (owners_of tables lid) (switch_at (cells_of facts) i)
      (cause_of (cells_of facts) tables lid (switch_at (cells_of facts) i)) far own_port h))

  none_across : slice_index_or (row_of (cells_of facts) (switch_at (cells_of facts) i)) (entry_for tables lid (switch_at (cells_of facts) i)) Nothing ≡ Port
      own_port
      → ⊥
  none_across h =
      let none = row_is_none (cells_of facts) (switch_at (cells_of facts) i) (entry_for tables lid (switch_at (cells_of facts) i)) own_port h in
      let some = index_at j j_in in
      clash (index_in (switches (cells_of facts)) (switch_at (cells_of facts) j)) none some
    where
      clash : (o : Option ℕ) → o ≡ None → o ≡ Some j → ⊥
      clash o n s = absurd (cc)

  pub own_switch : step_at (cells_of facts) tables lid (switch_at (cells_of facts) i) ≡ Ends (Taken own_port) → i ≡ j
  own_switch h =
      let g = switch_at (cells_of facts) i in
      by_test (entry_for tables lid g == 0) (slice_index_or (row_of (cells_of facts) g) (entry_for tables lid g) Nothing) none_across h
