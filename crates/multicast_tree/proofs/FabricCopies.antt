-- The copies in a fabric go as those on the wires of facts that describe it.
use Rattle.std.proofs.Common.{◌≡◌, ℕ, List, [], ◌∷◌, refl, sym, ap, ◌∙◌, subst, Bool, true}
use Rattle.std.proofs.lemmas.Option.{same_Some}
use Rattle.std.proofs.lemmas.Bool.{and_parts}
use Rattle.std.specs.Prelude.{Some, option_map, slice_get}
use Rattle.fabric_model.specs.declared.cable.NodePort.{NodePort}
use Rattle.fabric_model.specs.Fabric.{Fabric, IsFabric, IsPortNamed, Node, is_switch_at}
use Rattle.fabric_model.specs.FabricWalks.{IsJoinedTo, vertex_of}
use Rattle.fabric_model.proofs.FabricWalks.{port_at, same_port, type_at, vertex_node, switch_vertex, vertex_is_end}
use Rattle.fact_store.specs.View.{Facts, cells_of}
use Rattle.subnet_view.specs.Reading.{Cells, is_switch_node}
use Rattle.subnet_view.specs.FabricAgreement.{Covers, HasWire, IsEndPortIn}
use Rattle.subnet_view.specs.Wires.{IsWire as IsToldWire, across}
use Rattle.subnet_view.proofs.GraphSwitches.{usable_switch}
use Rattle.subnet_view.proofs.Graphs.{graph_law}
use Rattle.subnet_view.proofs.WireLaws.{wire_law}
use Rattle.subnet_view.proofs.PartWires.{IsTold, SwitchIn, known_type, neighbor_joined, switch_in_part, switch_port_vertex, switch_usable}
use Rattle.multicast_tree.specs.Copies.{CopyGoes, Copying, IsCopied}
use Rattle.multicast_tree.specs.Tree.{InTree, TreePorts, copying_in, masks_of, tree_in}
use Rattle.multicast_tree.specs.FabricCopies.{IsWithinAt, IsWholeAt, copying_at, pair_of}
use Rattle.multicast_tree.proofs.InWords.{tree_law}
use Rattle.multicast_tree.proofs.Masks.{masks_are_whole}

-- facts that describe the part
pub facts_told : (facts : Facts) (f : Fabric) (origin : NodePort) → IsFabric f → Covers (IsJoinedTo f origin) (cells_of facts) f
    → IsTold (cells_of facts) f origin
facts_told facts f origin fab covers = record { is_fabric = fab; covers = covers; is_graph = graph_law facts; listed = usable_switch facts }

-- in facts, the port `x` of the part has the name `v`
pub record Names (f : Fabric) (origin : NodePort) (x v : ℕ × ℕ) : Type 0 where
  pub named : IsPortNamed f v.0 v.1 (port_at x.0 x.1)
  pub here : IsEndPortIn (IsJoinedTo f origin) f (vertex_of f (port_at x.0 x.1)) named.node

-- the port that a wire of facts leads to
pub record FarEnd (f : Fabric) (origin : NodePort) (x v : ℕ × ℕ) : Type 0 where
  pub port : ℕ × ℕ
  pub cable : f.across (port_at x.0 x.1) ≡ Some (port_at port.0 port.1)
  pub there : Names f origin port v

-- a cable, with its far end as numbers
pub cable_pair : (f : Fabric) (number p : ℕ) (y : ℕ × ℕ) → f.across (port_at number p) ≡ Some (port_at y.0 y.1)
    → option_map pair_of (f.across (port_at number p)) ≡ Some y
cable_pair f number p y e = ap (option_map pair_of) e

module _ {cells : Cells} {f : Fabric} {origin : NodePort} (told : IsTold cells f origin) where
  -- a port of a switch of the part
  pub switch_of : {x v : ℕ × ℕ} → Names f origin x v → is_switch_at f x.0 ≡ true → SwitchIn f origin x.0 v.0
  switch_of {x = x} {v = v} n e =
      record {
        node = n.named.node;
        at = n.named.node_there;
        guid = n.named.guid_is;
        is_switch = sym (type_at f x.0 n.named.node n.named.node_there) ∙ e;
        joined = subst (IsJoinedTo f origin) (switch_vertex f (port_at x.0 x.1) e) n.here.in_part;
      }

  pub same_type : {x v : ℕ × ℕ} → Names f origin x v → is_switch_node cells v.0 ≡ is_switch_at f x.0
  same_type {x = x} {v = v} n =
      ap (is_switch_node cells) (sym n.named.guid_is)
      ∙ known_type told (vertex_of f (port_at x.0 x.1)) n.named.node n.here
      ∙ sym (type_at f x.0 n.named.node n.named.node_there)

  -- names are of one port
  pub one_port : {x y v : ℕ × ℕ} → Names f origin x v → Names f origin y v → x ≡ y
  one_port {x = x} {y = y} {v = v} n m =
      let index : x.0 ≡ y.0 =
      sym (vertex_node f (port_at x.0 x.1))
      ∙ told.covers.guids_distinct (vertex_of f (port_at x.0 x.1)) (vertex_of f (port_at y.0 y.1)) n.named.node m.named.node n.here m.here
      (n.named.guid_is ∙ sym m.named.guid_is)
      ∙ vertex_node f (port_at y.0 y.1) in
      let port : x.1 ≡ y.1 = n.named.port_is ∙ sym m.named.port_is in
      λ i. (index i, port i)

  -- and ports have one name
  pub one_name : {x v w : ℕ × ℕ} → Names f origin x v → Names f origin x w → v ≡ w
  one_name {x = x} {v = v} {w = w} n m =
      let node : n.named.node ≡ m.named.node = same_Some n.named.node m.named.node (sym n.named.node_there ∙ m.named.node_there) in
      let guid : v.0 ≡ w.0 = sym n.named.guid_is ∙ ap (λ (y : Node). y.guid) node ∙ m.named.guid_is in
      let port : v.1 ≡ w.1 = sym n.named.port_is ∙ m.named.port_is in
      λ i. (guid i, port i)

  -- a wire of facts out of a switch of the part is a cable
  pub far_end : {index g : ℕ} (p h q : ℕ) → SwitchIn f origin index g → across cells g p ≡ Some (h, q) → FarEnd f origin (index, p) (h, q)
  far_end {index = index} {g = g} p h q s x =
      let within : IsJoinedTo f origin (vertex_of f (port_at index p)) =
      subst (IsJoinedTo f origin) (sym (switch_port_vertex s (port_at index p) refl)) s.joined in
      let is_told : IsToldWire cells s.node.guid p h q =
      subst (λ (n : ℕ). IsToldWire cells n p h q) (sym s.guid) ((wire_law cells g p h q).0 x) in
      let w : HasWire (IsJoinedTo f origin) f s.node.guid p h q = told.covers.wires_there (port_at index p) s.node s.at within h q is_told in
      let out_end = vertex_is_end f w.from (told.is_fabric.cabled w.from w.to w.wire.cable) in
      let out_here : IsEndPortIn (IsJoinedTo f origin) f (vertex_of f w.from) w.from_named.node =
      record { node_there = ap (slice_get f.nodes) (vertex_node f w.from) ∙ w.from_named.node_there; end_port = out_end; in_part = w.in_part } in
      let out_index : w.from.node ≡ index =
      sym (vertex_node f w.from)
      ∙ told.covers.guids_distinct (vertex_of f w.from) (port_at index 0) w.from_named.node s.node out_here (switch_in_part s) w.from_named.guid_is in
      let into_end = vertex_is_end f w.to (told.is_fabric.cabled w.to w.from (told.is_fabric.both_ways w.from w.to w.wire.cable)) in
      record {
        port = (w.to.node, w.to.port);
        cable = ap f.across (same_port (port_at index p) w.from (sym out_index) (sym w.from_named.port_is)) ∙ w.wire.cable;
        there = record {
          named = w.to_named;
          here = record {
            node_there = ap (slice_get f.nodes) (vertex_node f w.to) ∙ w.to_named.node_there;
            end_port = into_end;
            in_part = neighbor_joined s w.from w.to out_index w.wire;
          };
        };
      }

-- the way that a copy goes on the wires of facts, or in the fabric
pub record InFacts (cells : Cells) (f : Fabric) (origin : NodePort) (masks : ℕ → ℕ → Bool) (v : ℕ × ℕ) (ports : List ℕ) (end : ℕ × ℕ) : Type 0 where
  pub name : ℕ × ℕ
  pub names : Names f origin end name
  pub goes : CopyGoes (copying_in cells masks) v ports name

pub record InFabric (f : Fabric) (origin : NodePort) (group : ℕ → ℕ → Bool) (x : ℕ × ℕ) (ports : List ℕ) (name : ℕ × ℕ) : Type 0 where
  pub end : ℕ × ℕ
  pub names : Names f origin end name
  pub goes : CopyGoes (copying_at f group) x ports end

module _ (facts : Facts) (positions : List ℕ) (f : Fabric) (origin : NodePort) (told : IsTold (cells_of facts) f origin) (group : ℕ → ℕ → Bool) where
  abbrev cells : Cells
  cells = cells_of facts

  abbrev tree : List TreePorts
  tree = tree_in (cells_of facts) positions

  abbrev masks : ℕ → ℕ → Bool
  masks = masks_of (tree_in (cells_of facts) positions)

  abbrev by : Copying
  by = copying_at f group

  -- a hop in the fabric is one of facts
  record Hop (x v : ℕ × ℕ) (p : ℕ) (far : ℕ × ℕ) : Type 0 where
    name : ℕ × ℕ
    names : Names f origin far name
    hop : IsCopied (copying_in (cells_of facts) (masks_of (tree_in (cells_of facts) positions))) v p name

  hop_told : IsWithinAt (IsJoinedTo f origin) tree f group → (x v : ℕ × ℕ) (p : ℕ) (far : ℕ × ℕ) → Names f origin x v → IsCopied by x p far → Hop x v p far
  hop_told within x v p far n i =
      let s = switch_of told n i.at_switch in
      let in_tree : InTree tree v.0 p =
      subst (λ (g : ℕ). InTree tree g p) s.guid (within (port_at x.0 0) s.node (switch_in_part s) s.is_switch p i.in_group) in
      let t = (tree_law facts positions v.0 p).0 in_tree in
      let w : across cells v.0 p ≡ Some (t.node, t.port) = (wire_law cells v.0 p t.node t.port).1 t.wire in
      let e = far_end told p t.node t.port s w in
      let same : e.port ≡ far = same_Some e.port far (sym (cable_pair f x.0 p e.port e.cable) ∙ i.wire) in
      record {
        name = (t.node, t.port);
        names = subst (λ (y : ℕ × ℕ). Names f origin y (t.node, t.port)) same e.there;
        hop = record {
          at_switch = switch_usable told s;
          in_group = (masks_are_whole tree v.0 p).1 in_tree;
          not_back = λ k. i.not_back (k ∙ sym n.named.port_is);
          wire = w;
        };
      }

  pub copy_told : IsWithinAt (IsJoinedTo f origin) tree f group → (ports : List ℕ) (x v end : ℕ × ℕ) → Names f origin x v → CopyGoes by x ports end
      → InFacts cells f origin masks v ports end
  copy_told within [] x v end n c = record { name = v; names = subst (λ (y : ℕ × ℕ). Names f origin y v) c n; goes = refl }
  copy_told within (p ∷ ports) x v end n (far, i, c) =
      let h = hop_told within x v p far n i in
      let r = copy_told within ports far h.name end h.names c in
      record { name = r.name; names = r.names; goes = (h.name, h.hop, r.goes) }

  pub copy_there : IsWholeAt (IsJoinedTo f origin) tree f group → (ports : List ℕ) (x v name : ℕ × ℕ) → Names f origin x v
      → CopyGoes (copying_in cells masks) v ports name → InFabric f origin group x ports name
  copy_there whole [] x v name n c = record { end = x; names = subst (λ (y : ℕ × ℕ). Names f origin x y) c n; goes = refl }
  copy_there whole (p ∷ ports) x v name n (far, i, c) =
      let at_switch : is_switch_at f x.0 ≡ true = sym (same_type told n) ∙ (and_parts (is_switch_node cells v.0) _ i.at_switch).0 in
      let s = switch_of told n at_switch in
      let in_tree : InTree tree v.0 p = (masks_are_whole tree v.0 p).0 i.in_group in
      let e = far_end told p far.0 far.1 s i.wire in
      let r = copy_there whole ports e.port far name e.there c in
      record {
        end = r.end;
        names = r.names;
        goes = (
          e.port,
          record {
            at_switch = at_switch;
            in_group = (whole (port_at x.0 0) s.node (switch_in_part s) s.is_switch p).1 (subst (λ (g : ℕ). InTree tree g p) (sym s.guid) in_tree);
            not_back = λ k. i.not_back (k ∙ n.named.port_is);
            wire = cable_pair f x.0 p e.port e.cable;
          },
          r.goes,
        );
      }
