-- The part of a fabric that facts cover: its switches are usable, and their edges are the fabric's wires between them.
use Rattle.std.proofs.Common.{◌≡◌, ℕ, suc, inr, refl, sym, ap, ◌∙◌, subst, true, false}
use Rattle.std.proofs.lemmas.Bool.{and_from}
use Rattle.std.specs.Prelude.{Some, Contains, is_some, slice_get}
use Rattle.std.specs.Option.{option_map_or}
use Rattle.fabric_model.specs.declared.cable.NodePort.{NodePort}
use Rattle.smp_bytes.specs.NodeType.{is_switch as is_switch_type}
use Rattle.fabric_model.specs.Fabric.{Node, Fabric, IsFabric, IsEndPort, is_switch_at, IsPortNamed}
use Rattle.fabric_model.specs.FabricWalks.{IsWire, IsJoinedTo, vertex_of}
use Rattle.fabric_model.proofs.FabricWalks.{port_at, same_port, EndNumber, type_at, walk_further, vertex_node, switch_vertex, vertex_is_end}
use Rattle.reply_facts.specs.Known.{cap_of}
use Rattle.subnet_view.specs.Reading.{Cells, is_switch_node, is_usable, switches}
use Rattle.subnet_view.specs.FabricAgreement.{IsEndPortIn, HasWire, Covers}
use Rattle.subnet_view.specs.Wires.{IsWire as IsToldWire}
use Rattle.subnet_view.specs.Graph.{graph_of}
use Rattle.subnet_view.specs.GraphLaws.{IsGraph}
use Rattle.subnet_view.proofs.WireLaws.{wire_law}
use Rattle.subnet_view.proofs.Graphs.{IsEdge}

-- facts that cover what is joined to the origin, and their graph
pub record IsTold (cells : Cells) (f : Fabric) (origin : NodePort) : Type 0 where
  pub is_fabric : IsFabric f
  pub covers : Covers (IsJoinedTo f origin) cells f
  pub is_graph : IsGraph (graph_of cells)
  pub listed : (g : ℕ) → is_usable cells g ≡ true → Contains (switches cells) g

-- the switch with this GUID at this index, joined to the origin
pub record SwitchIn (f : Fabric) (origin : NodePort) (index g : ℕ) : Type 0 where
  pub node : Node
  pub at : slice_get f.nodes index ≡ Some node
  pub guid : node.guid ≡ g
  pub is_switch : is_switch_type node.kind ≡ true
  pub joined : IsJoinedTo f origin (port_at index 0)

-- the wire out of a port of a switch to another
pub record SwitchWire (f : Fabric) (origin : NodePort) (index p h : ℕ) : Type 0 where
  pub into : NodePort
  pub wire : f.across (port_at index p) ≡ Some into
  pub there : SwitchIn f origin into.node h

module _ {f : Fabric} {origin : NodePort} {index g : ℕ} (s : SwitchIn f origin index g) where
  pub switch_at_index : is_switch_at f index ≡ true
  switch_at_index = type_at f index s.node s.at ∙ s.is_switch

  pub switch_end : IsEndPort f (port_at index 0)
  switch_end = (s.node, s.at, subst (EndNumber s.node.ports 0) (sym s.is_switch) refl)

  -- its port 0 is an end port of the part
  pub switch_in_part : IsEndPortIn (IsJoinedTo f origin) f (port_at index 0) s.node
  switch_in_part = record { node_there = s.at; end_port = switch_end; in_part = s.joined }

  pub switch_port : (p : ℕ) → IsPortNamed f g p (port_at index p)
  switch_port p = record { node = s.node; node_there = s.at; guid_is = s.guid; port_is = refl }

  pub switch_port_vertex : (p : NodePort) → p.node ≡ index → vertex_of f p ≡ port_at index 0
  switch_port_vertex p e = switch_vertex f p (ap (is_switch_at f) e ∙ switch_at_index) ∙ ap (λ x. port_at x 0) e

  -- what a switch is wired to is joined
  pub neighbor_joined : (out into : NodePort) → out.node ≡ index → IsWire f out into → IsJoinedTo f origin (vertex_of f into)
  neighbor_joined out into e w = (
    suc s.joined.0,
    walk_further f s.joined.0 origin (port_at index 0) (vertex_of f into) s.joined.1 (inr switch_at_index)
        (record { out = out; into = into; wire = w; of_one = switch_port_vertex out e; of_other = refl }),
  )

-- what a port's vertex is called, by the port's name
vertex_in_part : {f : Fabric} {origin : NodePort} (p : NodePort) (g n : ℕ) (named : IsPortNamed f g n p) → IsEndPort f (vertex_of f p)
    → IsJoinedTo f origin (vertex_of f p) → IsEndPortIn (IsJoinedTo f origin) f (vertex_of f p) named.node
vertex_in_part {f = f} p g n named end joined =
    record { node_there = ap (slice_get f.nodes) (vertex_node f p) ∙ named.node_there; end_port = end; in_part = joined }

module _ {cells : Cells} {f : Fabric} {origin : NodePort} (told : IsTold cells f origin) where
  -- one GUID, one index
  pub one_index : {i j g : ℕ} → SwitchIn f origin i g → SwitchIn f origin j g → i ≡ j
  one_index {i = i} {j = j} s t =
      told.covers.guids_distinct (port_at i 0) (port_at j 0) s.node t.node (switch_in_part s) (switch_in_part t) (s.guid ∙ sym t.guid)

  -- what facts tell of the type of a node
  pub known_type : (port : NodePort) (node : Node) → IsEndPortIn (IsJoinedTo f origin) f port node → is_switch_node cells node.guid ≡ is_switch_type node.kind
  known_type port node here = ap (λ o. option_map_or (λ n. is_switch_type n.0) o false) (told.covers.tells_end_ports port node here).kind

  -- facts know the switches of the part
  pub switch_known : {index g : ℕ} → SwitchIn f origin index g → is_switch_node cells g ≡ true
  switch_known {index = index} s =
      ap (is_switch_node cells) (sym s.guid) ∙ known_type (port_at index 0) s.node (switch_in_part s) ∙ s.is_switch

  -- and count them among the usable ones
  pub switch_usable : {index g : ℕ} → SwitchIn f origin index g → is_usable cells g ≡ true
  switch_usable {index = index} {g = g} s =
      let room : is_some (cap_of cells g) ≡ true =
      ap (λ x. is_some (cap_of cells x)) (sym s.guid)
      ∙ ap is_some ((told.covers.tells_end_ports (port_at index 0) s.node (switch_in_part s)).cap s.is_switch) in
      and_from (is_switch_node cells g) (is_some (cap_of cells g)) (switch_known s) room

  pub switch_listed : {index g : ℕ} → SwitchIn f origin index g → Contains (switches cells) g
  switch_listed {g = g} s = told.listed g (switch_usable s)

  -- an edge of facts is the fabric's wire out of that port, to the switch that facts name
  pub edge_in_fabric : {index g p h : ℕ} → SwitchIn f origin index g → IsEdge cells g p h → SwitchWire f origin index p h
  edge_in_fabric {index = index} {g = g} {p = p} {h = h} s x =
      let within : IsJoinedTo f origin (vertex_of f (port_at index p)) =
      subst (IsJoinedTo f origin) (sym (switch_port_vertex s (port_at index p) refl)) s.joined in
      let is_told : IsToldWire cells s.node.guid p h x.end_port =
      subst (λ (n : ℕ). IsToldWire cells n p h x.end_port) (sym s.guid) ((wire_law cells g p h x.end_port).0 x.wire) in
      let w : HasWire (IsJoinedTo f origin) f g p h x.end_port =
      subst (λ (n : ℕ). HasWire (IsJoinedTo f origin) f n p h x.end_port) s.guid
      (told.covers.wires_there (port_at index p) s.node s.at within h x.end_port is_told) in
      let out_end = vertex_is_end f w.from (told.is_fabric.cabled w.from w.to w.wire.cable) in
      let same_guid : w.from_named.node.guid ≡ s.node.guid = w.from_named.guid_is ∙ sym s.guid in
      let out_index : w.from.node ≡ index =
      sym (vertex_node f w.from)
      ∙ told.covers.guids_distinct (vertex_of f w.from) (port_at index 0) w.from_named.node s.node
      (vertex_in_part w.from g p w.from_named out_end w.in_part) (switch_in_part s) same_guid in
      let into_node = w.to_named.node in
      let into_joined = neighbor_joined s w.from w.to out_index w.wire in
      let into_end = vertex_is_end f w.to (told.is_fabric.cabled w.to w.from (told.is_fabric.both_ways w.from w.to w.wire.cable)) in
      let into_switch : is_switch_type into_node.kind ≡ true =
      sym (known_type (vertex_of f w.to) into_node (vertex_in_part w.to h x.end_port w.to_named into_end into_joined))
      ∙ ap (is_switch_node cells) w.to_named.guid_is
      ∙ x.is_switch in
      record {
        into = w.to;
        wire = ap f.across (same_port (port_at index p) w.from (sym out_index) (sym w.from_named.port_is)) ∙ w.wire.cable;
        there = record {
          node = into_node;
          at = w.to_named.node_there;
          guid = w.to_named.guid_is;
          is_switch = into_switch;
          joined = subst (IsJoinedTo f origin) (switch_vertex f w.to (type_at f w.to.node into_node w.to_named.node_there ∙ into_switch)) into_joined;
        };
      }

  -- a wire between two switches of the part is an edge of facts
  pub wire_in_facts : {index g h : ℕ} (out into : NodePort) → SwitchIn f origin index g → SwitchIn f origin into.node h → out.node ≡ index
      → IsWire f out into → IsEdge cells g out.port h
  wire_in_facts {index = index} {g = g} {h = h} out into s t e w =
      let out_joined : IsJoinedTo f origin (vertex_of f out) = subst (IsJoinedTo f origin) (sym (switch_port_vertex s out e)) s.joined in
      let named : IsPortNamed f g out.port out =
      subst (IsPortNamed f g out.port) (same_port (port_at index out.port) out (sym e) refl) (switch_port s out.port) in
      record {
        end_port = into.port;
        wire = (wire_law cells g out.port h into.port).1 (told.covers.wires_told g out.port h into.port
            (record { from = out; to = into; from_named = named; to_named = switch_port t into.port; wire = w; in_part = out_joined }));
        is_switch = switch_known t;
      }
