-- Two joined end ports are equal, or are two adapter ports on one wire, or lie at switches of one component.
use Rattle.std.proofs.Common.{◌≡◌, ℕ, zero, suc, List, inl, inr, refl, sym, ap, ◌∙◌, subst, true, false}
use Rattle.std.proofs.lemmas.Option.{same_Some}
use Rattle.std.specs.Prelude.{None, Some, Contains, slice_get}
use Rattle.std.specs.Option.{option_map_or}
use Rattle.fabric_model.specs.declared.cable.NodePort.{NodePort}
use Rattle.smp_bytes.specs.NodeType.{is_switch as is_switch_type}
use Rattle.fabric_model.specs.Fabric.{Node, Fabric, IsEndPort, is_switch_at}
use Rattle.fabric_model.specs.FabricWalks.{IsWire, IsJoinedTo, Walk, vertex_of}
use Rattle.fabric_model.proofs.FabricWalks.{port_at, same_port, no_more_wires, vertex_node, switch_vertex, adapter_vertex}
use Rattle.fabric_model.proofs.FabricWalks.{switch_number, adapter_start, turned_wire}
use Rattle.subnet_view.specs.Reading.{Cells}
use Rattle.subnet_view.specs.Graph.{graph_of, edges_at, neighbors}
use Rattle.subnet_view.specs.GraphLaws.{IsSwitch}
use Rattle.subnet_view.specs.Components.{in_one_component}
use Rattle.subnet_view.proofs.EdgeLists.{has_end}
use Rattle.subnet_view.proofs.Components.{walk_joins, joined, component_itself, component_symm, component_trans}
use Rattle.subnet_view.proofs.GraphSwitches.{graph_guids}
use Rattle.subnet_view.proofs.Graphs.{wire_is_edge}
use Rattle.subnet_view.proofs.PartWires.{IsTold, SwitchIn, switch_at_index, switch_listed, neighbor_joined, wire_in_facts}

-- an end port lies at a switch's port: its own port 0, or the one that an adapter port is wired to
pub data LiesAt (f : Fabric) (v h : NodePort) : Type 0 where
  itself : is_switch_at f v.node ≡ true → v.port ≡ 0 → v ≡ h → LiesAt f v h
  by_wire : is_switch_at f v.node ≡ false → f.across v ≡ Some h → LiesAt f v h

-- it lies at a port of a switch of the part
pub record HasAttachment (f : Fabric) (origin v h : NodePort) (g : ℕ) : Type 0 where
  pub there : SwitchIn f origin h.node g
  pub lies : LiesAt f v h

-- one port, or two adapter ports with one wire, or two that lie at switches of one component
pub data Meets (cells : Cells) (f : Fabric) (origin v w : NodePort) : Type 0 where
  same : v ≡ w → Meets cells f origin v w
  wired : is_switch_at f v.node ≡ false → is_switch_at f w.node ≡ false → f.across v ≡ Some w → Meets cells f origin v w
  apart : (h k : NodePort) (a b : ℕ) → HasAttachment f origin v h a → HasAttachment f origin w k b → in_one_component (graph_of cells) a b ≡ true
      → Meets cells f origin v w

-- there is one switch at an index
one_guid : {f : Fabric} {origin : NodePort} {index a b : ℕ} → SwitchIn f origin index a → SwitchIn f origin index b → a ≡ b
one_guid s t = sym s.guid ∙ ap (λ (n : Node). n.guid) (same_Some s.node t.node (sym s.at ∙ t.at)) ∙ t.guid

one_attachment : {f : Fabric} {v h k : NodePort} → LiesAt f v h → LiesAt f v k → h ≡ k
one_attachment (itself s z e) (itself t y i) = sym e ∙ i
one_attachment (itself s z e) (by_wire t i) = absurd (cc)
one_attachment (by_wire s e) (itself t y i) = absurd (cc)
one_attachment {h = h} {k = k} (by_wire s e) (by_wire t i) = same_Some h k (sym e ∙ i)

module _ (f : Fabric) (origin : NodePort) where
  switch_there : (index : ℕ) → is_switch_at f index ≡ true → IsJoinedTo f origin (port_at index 0) → (g : ℕ) × SwitchIn f origin index g
  switch_there index e j =
      elim (slice_get f.nodes index) as
      (λ o. slice_get f.nodes index ≡ o → option_map_or (λ (n : Node). is_switch_type n.kind) o false ≡ true
      → (g : ℕ) × SwitchIn f origin index g) [
        | None ↦ λ p q. absurd (cc)
        | Some node ↦ λ p q. (node.guid, record { node = node; at = p; guid = refl; is_switch = q; joined = j })
      ] refl e

  -- a switch's end port lies at itself
  pub own_attachment : (v : NodePort) → IsEndPort f v → IsJoinedTo f origin v → is_switch_at f v.node ≡ true → (g : ℕ) × HasAttachment f origin v v g
  own_attachment v end_port j e =
      let s = switch_there v.node e (subst (IsJoinedTo f origin) (same_port v (port_at v.node 0) refl (switch_number f v end_port e)) j) in
      (s.0, record { there = s.1; lies = itself e (switch_number f v end_port e) refl })

module _ {cells : Cells} {f : Fabric} {origin : NodePort} (told : IsTold cells f origin) where
  -- a switch of the part is one of the graph
  pub switch_in_graph : {index g : ℕ} → SwitchIn f origin index g → IsSwitch (graph_of cells) g
  switch_in_graph {g = g} s = subst (λ (gs : List ℕ). Contains gs g) (sym (graph_guids cells)) (switch_listed told s)

  -- a wire between switches of the part keeps to their component
  wire_joins : {index a b : ℕ} (out into : NodePort) → SwitchIn f origin index a → SwitchIn f origin into.node b → out.node ≡ index → IsWire f out into
      → in_one_component (graph_of cells) a b ≡ true
  wire_joins {a = a} {b = b} out into s t e w =
      let graph = graph_of cells in
      let edge = wire_is_edge cells a out.port b (switch_listed told s) (wire_in_facts told out into s t e w) in
      let step : Contains (neighbors graph a) b = has_end (edges_at graph a) (record { port = out.port; to = b }) edge in
      let m = walk_joins graph told.is_graph 1 a b (switch_in_graph s) (b, step, refl) in
      joined graph told.is_graph a b m.0 m.1

  -- an attachment in the component of a switch
  abbrev AttachmentFrom : NodePort → ℕ → Type 0
  AttachmentFrom v a = (h : NodePort) × (b : ℕ) × HasAttachment f origin v h b × (in_one_component (graph_of cells) a b ≡ true)

  -- where a walk from a switch comes to, there is an attachment in the switch's component
  attachment_on_walk : (n : ℕ) {index a : ℕ} (v : NodePort) → SwitchIn f origin index a → Walk f (port_at index 0) v n → AttachmentFrom v a
  attachment_on_walk zero {index = index} {a = a} v s w =
      let at_switch : is_switch_at f v.node ≡ true = ap (λ (x : NodePort). is_switch_at f x.node) (sym w) ∙ switch_at_index s in (
        port_at index 0,
        a,
        record { there = s; lies = itself at_switch (ap (λ (x : NodePort). x.port) (sym w)) (sym w) },
        component_itself (graph_of cells) told.is_graph a (switch_in_graph s),
      )
  attachment_on_walk (suc n) {index = index} {a = a} v s (d, first, between, w) =
      let out : NodePort = first.out in
      let into : NodePort = first.into in
      let wire = first.wire in
      let ends : vertex_of f into ≡ d = first.of_other in
      let out_index : out.node ≡ index = sym (vertex_node f out) ∙ ap (λ (x : NodePort). x.node) first.of_one in
      elim (is_switch_at f into.node) as (λ t. is_switch_at f into.node ≡ t → AttachmentFrom v a) [
        | true ↦ λ e.
            let t = switch_there f origin into.node e (subst (IsJoinedTo f origin) (switch_vertex f into e) (neighbor_joined s out into out_index wire)) in
            let start : d ≡ port_at into.node 0 = sym ends ∙ switch_vertex f into e in
            let i = attachment_on_walk n v t.1 (subst (λ (x : NodePort). Walk f x v n) start w) in (
              i.0,
              i.1,
              i.2,
              component_trans (graph_of cells) told.is_graph a t.0 i.1 (switch_in_graph s) (wire_joins out into s t.1 out_index wire) i.3,
            )
        | false ↦ λ e.
            let d_is : d ≡ into = sym ends ∙ adapter_vertex f into e in
            let v_is : d ≡ v = no_more_wires f n d v w
            (elim between [ inl z ↦ z | inr k ↦ absurd (cc (ap (λ (x : NodePort). is_switch_at f x.node) d_is)) ]) in
            let into_is : into ≡ v = sym d_is ∙ v_is in (
              out,
              a,
              record {
                there = subst (λ (x : ℕ). SwitchIn f origin x a) (sym out_index) s;
                lies = by_wire (ap (λ (x : NodePort). is_switch_at f x.node) (sym into_is) ∙ e)
                    (ap f.across (sym into_is) ∙ (turned_wire told.is_fabric out into wire).cable);
              },
              component_itself (graph_of cells) told.is_graph a (switch_in_graph s),
            )
      ] refl

  meets_on_walk : (n : ℕ) (v : NodePort) → IsEndPort f origin → Walk f origin v n → Meets cells f origin origin v
  meets_on_walk zero v end_port w = same w
  meets_on_walk (suc n) v end_port (d, first, between, w) =
      let into : NodePort = first.into in
      let ends : vertex_of f into ≡ d = first.of_other in
      elim (is_switch_at f origin.node) as (λ t. is_switch_at f origin.node ≡ t → Meets cells f origin origin v) [
        | true ↦ λ e.
            let attachment = own_attachment f origin origin end_port (0, refl) e in
            let i = attachment_on_walk (suc n) v attachment.1.there
            (subst (λ (x : NodePort). Walk f x v (suc n)) (same_port origin (port_at origin.node 0) refl (switch_number f origin end_port e))
            (d, first, between, w)) in
            apart origin i.0 attachment.0 i.1 attachment.1 i.2 i.3
        | false ↦ λ e.
            let out_is : first.out ≡ origin = adapter_start f first.out origin e first.of_one in
            let from_origin : f.across origin ≡ Some into = ap f.across (sym out_is) ∙ first.wire.cable in
            (elim (is_switch_at f into.node) as (λ t. is_switch_at f into.node ≡ t → Meets cells f origin origin v) [
              | true ↦ λ k.
                  let start : d ≡ port_at into.node 0 = sym ends ∙ switch_vertex f into k in
                  let s = switch_there f origin into.node k
                  (1, subst (λ (x : NodePort). Walk f origin x 1) start (d, first, inl refl, refl)) in
                  let i = attachment_on_walk n v s.1 (subst (λ (x : NodePort). Walk f x v n) start w) in
                  apart into i.0 s.0 i.1 (record { there = s.1; lies = by_wire e from_origin }) i.2 i.3
              | false ↦ λ k.
                  let d_is : d ≡ into = sym ends ∙ adapter_vertex f into k in
                  let v_is : d ≡ v = no_more_wires f n d v w
                  (elim between [ inl z ↦ z | inr j ↦ absurd (cc (ap (λ (x : NodePort). is_switch_at f x.node) d_is)) ]) in
                  let into_is : into ≡ v = sym d_is ∙ v_is in
                  wired e (ap (λ (x : NodePort). is_switch_at f x.node) (sym into_is) ∙ k) (from_origin ∙ ap (λ (x : NodePort). Some x) into_is)
            ] refl)
      ] refl

  meets_back : (v w : NodePort) → Meets cells f origin v w → Meets cells f origin w v
  meets_back v w (same e) = same (sym e)
  meets_back v w (wired s t e) = wired t s (told.is_fabric.both_ways v w e)
  meets_back v w (apart h k a b at_h at_k e) = apart k h b a at_k at_h (component_symm (graph_of cells) told.is_graph a b (switch_in_graph at_k.there) e)

  -- an adapter port with a wire to another has no attachment
  not_both : (o v h : NodePort) (a : ℕ) → is_switch_at f o.node ≡ false → is_switch_at f v.node ≡ false → f.across o ≡ Some v → HasAttachment f origin o h a → ⊥
  not_both o v h a s t e attachment = lies_there attachment.lies
    where
      lies_there : LiesAt f o h → ⊥
      lies_there (itself r z i) = cc
      lies_there (by_wire r i) =
          let same : v ≡ h = same_Some v h (sym e ∙ i) in
          cc (t, ap (λ (x : NodePort). is_switch_at f x.node) same, switch_at_index attachment.there)

  meets_on : (o v w : NodePort) → Meets cells f origin o v → Meets cells f origin o w → Meets cells f origin v w
  meets_on o v w (same e) m = subst (λ (x : NodePort). Meets cells f origin x w) e m
  meets_on o v w (wired s t e) (same i) = subst (λ (x : NodePort). Meets cells f origin v x) i (meets_back o v (wired s t e))
  meets_on o v w (wired s t e) (wired r u i) = same (same_Some v w (sym e ∙ i))
  meets_on o v w (wired s t e) (apart h k a b at_h at_k i) = absurd (not_both o v h a s t e at_h)
  meets_on o v w (apart h k a b at_h at_k e) (same i) = subst (λ (x : NodePort). Meets cells f origin v x) i (meets_back o v (apart h k a b at_h at_k e))
  meets_on o v w (apart h k a b at_h at_k e) (wired s t i) = absurd (not_both o w h a s t i at_h)
  meets_on o v w (apart h k a b at_h at_k e) (apart l m c d at_l at_m i) =
      let graph = graph_of cells in
      let attachment : h ≡ l = one_attachment at_h.lies at_l.lies in
      let guid : a ≡ c = one_guid (subst (λ (x : NodePort). SwitchIn f origin x.node a) attachment at_h.there) at_l.there in
      let back : in_one_component graph b a ≡ true = component_symm graph told.is_graph a b (switch_in_graph at_k.there) e in
      let onward : in_one_component graph a d ≡ true = ap (λ (x : ℕ). in_one_component graph x d) guid ∙ i in
      apart k m b d at_k at_m (component_trans graph told.is_graph b a d (switch_in_graph at_k.there) back onward)

  -- what is joined to one end port is joined so to each other
  pub joined_meet : IsEndPort f origin → (v w : NodePort) → IsJoinedTo f origin v → IsJoinedTo f origin w → Meets cells f origin v w
  joined_meet end_port v w (n, to_v) (m, to_w) = meets_on origin v w (meets_on_walk n v end_port to_v) (meets_on_walk m w end_port to_w)
