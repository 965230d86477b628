-- What facts that describe a part of a fabric say of its switches and its wires.
use Rattle.std.proofs.Common.{◌≡◌, ◌≢◌, ℕ, ◌≤◌, true, false, List, length, get_or, None, Some, refl, sym, ap, ◌∙◌, subst, arith}
use Rattle.std.specs.Prelude.{slice_get, is_some, Contains, ◌==◌}
use Rattle.std.specs.List.{position_or_len}
use Rattle.std.specs.Option.{option_map_or}
use Rattle.std.proofs.lemmas.Bool.{and_from, and_parts, eqb-true, eq-eqb, ltb-false}
use Rattle.std.proofs.lemmas.Option.{slice_get-get_or}
use Rattle.std.proofs.lemmas.List.Sums.{fails_before_first}
use Rattle.text_words.proofs.Splits.{unfound}
use Rattle.std.proofs.lemmas.List.Quantifiers.{position-Some}
use Rattle.fabric_model.specs.declared.cable.NodePort.{NodePort}
use Rattle.smp_bytes.specs.NodeType.{is_switch}
use Rattle.fabric_model.specs.Fabric.{Node, Fabric, IsNodeAt, IsEndPort}
use Rattle.fabric_model.specs.FabricWalks.{vertex_of}
use Rattle.fabric_model.proofs.FabricWalks.{port_at, same_port, EndNumber, vertex_node, vertex_is_end}
use Rattle.fact_store.specs.View.{Facts, cells_of}
use Rattle.reply_facts.specs.Known.{cap_of}
use Rattle.subnet_view.specs.Reading.{Cells, is_switch_node, is_usable, switches}
use Rattle.subnet_view.specs.Wires.{across}
use Rattle.subnet_view.specs.FabricAgreement.{Part, WholeFabric, IsEndPortIn}
use Rattle.subnet_view.proofs.Covered.{covers}
use Rattle.subnet_view.proofs.UsableSwitches.{switches_law, usable_law}
use Rattle.subnet_view.proofs.WireLaws.{wire_law}
use Rattle.packet_walks.specs.Fabrics.{IsSeen, IsSeenIn}
use Rattle.held_tables.specs.Switches.{index_in}
use Rattle.held_tables.specs.Held.{HeldPlan}

-- a list that contains a number has an index for it
pub index_there : (guids : List ℕ) (g : ℕ) → Contains guids g → index_in guids g ≡ None → ⊥
index_there guids g h e =
    let past : length guids ≤ position_or_len (λ x. x == g) guids = ltb-false _ _ (unfound _ _ e) in
    let less = h.1 in
    let fails : (get_or guids h.0 g == g) ≡ false = fails_before_first (λ x. x == g) guids h.0 g (omega arith) in
    let here : (get_or guids h.0 g == g) ≡ true = eq-eqb (get_or guids h.0 g) g h.2 in
    cc

-- the facts agree with the whole fabric
pub seen_whole : {cells : Cells} {held : HeldPlan} {f : Fabric} → IsSeen cells held f → IsSeenIn WholeFabric cells held f
seen_whole seen = record {
  is_fabric = seen.is_fabric;
  covers = covers seen.agrees;
  holds = record {
    lids = λ port node lid here some. seen.holds.lids port node lid here.node_there here.end_port some;
    entries = λ port node lid here kind. seen.holds.entries port.node node lid here.node_there kind;
  };
}

module _ (part : Part) (facts : Facts) (held : HeldPlan) (f : Fabric) (seen : IsSeenIn part (cells_of facts) held f) where
  abbrev pub cells : Cells
  cells = cells_of facts

  abbrev pub InFabric : NodePort → Node → Type 0
  InFabric p node = IsEndPortIn part f p node

  pub as_part : (p : NodePort) (node : Node) → IsNodeAt f p.node node → IsEndPort f p → part p → InFabric p node
  as_part p node at end within = record { node_there = at; end_port = end; in_part = within }

  -- the vertex of a port with a cable
  pub vertex_part : (p q : NodePort) (node : Node) → f.across p ≡ Some q → IsNodeAt f p.node node → part (vertex_of f p) → InFabric (vertex_of f p) node
  vertex_part p q node wire at within =
      as_part (vertex_of f p) node (ap (slice_get f.nodes) (vertex_node f p) ∙ at) (vertex_is_end f p (seen.is_fabric.cabled p q wire)) within

  pub known_type : (p : NodePort) (node : Node) → InFabric p node → is_switch_node cells node.guid ≡ is_switch node.kind
  known_type p node here = ap (λ o. option_map_or (λ n. is_switch n.0) o false) (seen.covers.tells_end_ports p node here).kind

  pub switch_end : (id : ℕ) (node : Node) → IsNodeAt f id node → is_switch node.kind ≡ true → part (port_at id 0) → InFabric (port_at id 0) node
  switch_end id node at kind within =
      as_part (port_at id 0) node at (node, at, subst (EndNumber node.ports 0) (sym kind) refl) within

  -- a switch of the part is usable, and has an index
  pub usable : (id : ℕ) (node : Node) → IsNodeAt f id node → is_switch node.kind ≡ true → part (port_at id 0) → is_usable cells node.guid ≡ true
  usable id node at kind within =
      let here = switch_end id node at kind within in
      and_from (is_switch_node cells node.guid) (is_some (cap_of cells node.guid)) (known_type (port_at id 0) node here ∙ kind)
      (ap is_some ((seen.covers.tells_end_ports (port_at id 0) node here).cap kind))

  pub listed : (id : ℕ) (node : Node) → IsNodeAt f id node → is_switch node.kind ≡ true → part (port_at id 0)
      → index_in (switches cells) node.guid ≡ None → ⊥
  listed id node at kind within none =
      index_there (switches cells) node.guid (((switches_law facts).0 node.guid).1 ((usable_law cells node.guid).0 (usable id node at kind within))) none

  -- a node with an index is a switch
  pub indexed : (p : NodePort) (node : Node) (i : ℕ) → InFabric p node → index_in (switches cells) node.guid ≡ Some i
      → (is_switch node.kind ≡ true) × (slice_get (switches cells) i ≡ Some node.guid)
  indexed p node i here e =
      let guids = switches cells in
      let g = node.guid in
      let found = position-Some (λ x. x == g) guids i g e in
      let is_g : get_or guids i g ≡ g = eqb-true (get_or guids i g) g found.1 in
      let is_usable : is_usable cells g ≡ true = (usable_law cells g).1 (((switches_law facts).0 g).0 (i, found.0, is_g)) in (
        sym (known_type p node here) ∙ (and_parts (is_switch_node cells g) (is_some (cap_of cells g)) is_usable).0,
        slice_get-get_or guids i g found.0 ∙ ap (λ x. Some x) is_g,
      )

  -- the wires are those of the facts
  same_index : (p q : NodePort) (a b : Node) → InFabric p a → InFabric q b → a.guid ≡ b.guid → p.node ≡ q.node
  same_index = seen.covers.guids_distinct

  pub wire_told : (p q : NodePort) (a b : Node) → f.across p ≡ Some q → p ≢ q → IsNodeAt f p.node a → IsNodeAt f q.node b → part (vertex_of f p)
      → across cells a.guid p.port ≡ Some (b.guid, q.port)
  wire_told p q a b wire apart at there within =
      (wire_law cells a.guid p.port b.guid q.port).1 (seen.covers.wires_told a.guid p.port b.guid q.port
      (record {
        from = p;
        to = q;
        from_named = record { node = a; node_there = at; guid_is = refl; port_is = refl };
        to_named = record { node = b; node_there = there; guid_is = refl; port_is = refl };
        wire = record { cable = wire; different = apart };
        in_part = within;
      }))

  pub record WireThere (p : NodePort) : Type 0 where
    pub to : NodePort
    pub wire : f.across p ≡ Some to
    pub apart : p ≢ to

  pub told_wire : (p v : NodePort) (node : Node) (h q : ℕ) → InFabric v node → v.node ≡ p.node → part (vertex_of f p)
      → across cells node.guid p.port ≡ Some (h, q) → WireThere p
  told_wire p v node h q here id within e =
      let there : IsNodeAt f p.node node = sym (ap (slice_get f.nodes) id) ∙ here.node_there in
      let w = seen.covers.wires_there p node there within h q ((wire_law cells node.guid p.port h q).0 e) in
      let from_part = vertex_part w.from w.to w.from_named.node w.wire.cable w.from_named.node_there w.in_part in
      let at : w.from.node ≡ p.node =
      sym (vertex_node f w.from) ∙ same_index (vertex_of f w.from) v w.from_named.node node from_part here w.from_named.guid_is ∙ id in
      let same : w.from ≡ p = same_port w.from p at w.from_named.port_is in
      record { to = w.to; wire = sym (ap f.across same) ∙ w.wire.cable; apart = λ k. w.wire.different (same ∙ k) }
