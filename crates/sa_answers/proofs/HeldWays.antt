-- A way by the facts and the plan is the way of the packet in a fabric that the facts describe and that holds the plan.
use Rattle.std.proofs.Common.{◌≡◌, ◌↔◌, ◌≤◌, ◌+◌, ◌*◌, ◌/◌, ◌%◌, ℕ, Bool, true, false, cond, ◌==◌, ◌||◌, List, [], ◌∷◌, Option, None, Some, refl, sym, ap, ◌∙◌, subst, arith}
use Rattle.std.proofs.lemmas.Bool.{and_from, and_left, and_parts, eqb-true, eq-eqb, ne_eqb, le-ltb, or_from}
use Rattle.std.proofs.lemmas.Option.{get_or_from_slice_get, same_Some}
use Rattle.std.specs.Option.{option_map_or}
use Rattle.std.specs.Prelude.{IsTrue, is_some, nat_lt, option_map, slice_get, slice_index_or}
use Rattle.fabric_model.specs.declared.cable.NodePort.{NodePort}
use Rattle.fabric_model.specs.declared.course.Course.TheVariants.{Delivers, LeavesBy, Drops}
use Rattle.fabric_model.specs.Fabric.{Node, Fabric, IsFabric, IsNodeAt, IsEndPort, IsPortNamed, is_switch_at, owns}
use Rattle.fabric_model.specs.FabricWalks.{vertex_of}
use Rattle.fabric_model.specs.Forwarding.{Goes, Hop, Standing, course, entry_course}
use Rattle.fabric_model.proofs.FabricWalks.{adapter_vertex, port_at, same_port, switch_vertex, type_at, vertex_is_end, vertex_node}
use Rattle.fabric_model.proofs.NodeCourses.{adapter_sends, adapter_takes, switch_does}
use Rattle.smp_bytes.specs.LidRange.{has_lid}
use Rattle.smp_bytes.specs.NodeType.{is_switch}
use Rattle.reply_facts.specs.Known.{cap_of}
use Rattle.subnet_view.specs.declared.end_port.EndPort.{EndPort}
use Rattle.subnet_view.specs.FabricAgreement.{Covers, HasWire, IsEndPortIn, Part}
use Rattle.subnet_view.specs.Reading.{is_switch_node, is_usable}
use Rattle.subnet_view.specs.Wires.{across}
use Rattle.subnet_view.proofs.WireLaws.{wire_law}
use Rattle.lid_assign.specs.Lids.{Given, lid_of, lmc_of, owner_of, range_of}
use Rattle.lft_blocks.specs.InForce.{HoldsPlan, HoldsPlanAt}
use Rattle.lft_blocks.specs.Plan.{block_at}
use Rattle.lft_blocks.proofs.HeldEntries.{owned_to_top}
use Rattle.packet_walks.proofs.Told.{IsClosed}
use Rattle.sa_answers.specs.PathLaws.{AreWires}
use Rattle.sa_answers.specs.Told.{Told}
use Rattle.sa_answers.specs.Way.{GoesAlong, Wire, by_adapter, by_entry, is_port, planned_entry, step_at}
use Rattle.sa_answers.specs.declared.way.WayStep.TheVariants.{Takes, Leaves, Drops}

-- what an entry that is neither taken nor dropped does
takes_by : (entry port : ℕ) → by_entry entry ≡ Takes port → (entry ≡ 0) × (port ≡ 0)
takes_by entry port e =
    elim (entry == 0) as (λ b. (entry == 0) ≡ b → cond b (Takes 0) (cond (entry == 255) Drops (Leaves entry)) ≡ Takes port → (entry ≡ 0) × (port ≡ 0)) [
      | true ↦ λ z t. (eqb-true entry 0 z, cc)
      | false ↦ λ z t.
          elim (entry == 255) as (λ b. cond b Drops (Leaves entry) ≡ Takes port → (entry ≡ 0) × (port ≡ 0)) [
            | true ↦ λ u. absurd (cc)
            | false ↦ λ u. absurd (cc)
          ] t
    ] refl e

leaves_by : (entry port : ℕ) → by_entry entry ≡ Leaves port → (entry ≡ port) × ((entry == 0) ≡ false) × ((entry == 255) ≡ false)
leaves_by entry port e =
    elim (entry == 0) as (λ b. (entry == 0) ≡ b → cond b (Takes 0) (cond (entry == 255) Drops (Leaves entry)) ≡ Leaves port
    → (entry ≡ port) × ((entry == 0) ≡ false) × ((entry == 255) ≡ false)) [
      | true ↦ λ z t. absurd (cc)
      | false ↦ λ z t.
          elim (entry == 255) as (λ b. (entry == 255) ≡ b → cond b Drops (Leaves entry) ≡ Leaves port
          → (entry ≡ port) × ((entry == 0) ≡ false) × ((entry == 255) ≡ false)) [
            | true ↦ λ y u. absurd (cc)
            | false ↦ λ y u. (cc, z, y)
          ] refl t
    ] refl e

-- what an adapter's port does
takes_own : (owner : EndPort) (at : ℕ × ℕ) (by_wire : Bool) (port : ℕ) → by_adapter owner at by_wire ≡ Takes port → (is_port owner at ≡ true) × (port ≡ at.1)
takes_own owner at by_wire port e =
    elim (is_port owner at) as (λ b. cond b (Takes at.1) (cond by_wire Drops (Leaves at.1)) ≡ Takes port → (b ≡ true) × (port ≡ at.1)) [
      | true ↦ λ t. (refl, cc)
      | false ↦ λ t.
          elim by_wire as (λ b. cond b Drops (Leaves at.1) ≡ Takes port → (false ≡ true) × (port ≡ at.1)) [
            | true ↦ λ u. absurd (cc)
            | false ↦ λ u. absurd (cc)
          ] t
    ] e

sends_other : (owner : EndPort) (at : ℕ × ℕ) (by_wire : Bool) (port : ℕ) → by_adapter owner at by_wire ≡ Leaves port
    → (is_port owner at ≡ false) × (by_wire ≡ false) × (port ≡ at.1)
sends_other owner at by_wire port e =
    elim (is_port owner at) as (λ b. cond b (Takes at.1) (cond by_wire Drops (Leaves at.1)) ≡ Leaves port → (b ≡ false) × (by_wire ≡ false) × (port ≡ at.1)) [
      | true ↦ λ t. absurd (cc)
      | false ↦ λ t.
          elim by_wire as (λ b. cond b Drops (Leaves at.1) ≡ Leaves port → (false ≡ false) × (b ≡ false) × (port ≡ at.1)) [
            | true ↦ λ u. absurd (cc)
            | false ↦ λ u. (refl, refl, cc)
          ] t
    ] e

-- an entry other than 255 is that of a block
entry_there : (lid entry held : ℕ) (block : Option (List ℕ)) → ((b : List ℕ) → block ≡ Some b → slice_get b (lid % 64) ≡ Some held)
    → option_map_or (λ b. slice_index_or b (lid % 64) 255) block 255 ≡ entry → (entry == 255) ≡ false → held ≡ entry
entry_there lid entry held None at e other = let same = eq-eqb entry 255 (sym e) in absurd (cc)
entry_there lid entry held (Some b) at e other = sym (get_or_from_slice_get b (lid % 64) held 255 (at b refl)) ∙ e

whole_lid : (n : ℕ) → 64 * (n / 64) + n % 64 ≡ n
whole_lid n = omega arith

-- a LID and an LMC that are given
given_parts : (m : Option ℕ) (lmc base found : ℕ) → option_map {U = ℕ × ℕ} (λ lid. (lid, lmc)) m ≡ Some (base, found) → (m ≡ Some base) × (found ≡ lmc)
given_parts None lmc base found e = absurd (cc)
given_parts (Some lid) lmc base found e =
    let same : (lid, lmc) ≡ (base, found) = same_Some (lid, lmc) (base, found) e in
    (ap (λ (x : ℕ × ℕ). Some x.0) same, ap (λ (x : ℕ × ℕ). x.1) (sym same))

-- each end port has the LIDs that it owns
abbrev pub OwnsIts : Given → Type 0
OwnsIts given = (e : EndPort) (n : ℕ)
    → (owner_of given n ≡ Some e) ↔ ((base : ℕ) × (lid_of given e ≡ Some base) × IsTrue (has_lid base (lmc_of given e) n))

module _ (told : Told) (f : Fabric) (part : Part) (is_fabric : IsFabric f) (closed : IsClosed part f) (covers : Covers part told.cells f)
    (holds : HoldsPlan part told.plan f) (inverse : OwnsIts told.plan.given) (lid : ℕ) (owner : EndPort) (owned : owner_of told.plan.given lid ≡ Some owner)
    (some : 1 ≤ lid) where
  -- a port of the part, by its name
  pub record Here (p : NodePort) (at : ℕ × ℕ) : Type 0 where
    pub node : Node
    pub there : IsNodeAt f p.node node
    pub guid : node.guid ≡ at.0
    pub number : p.port ≡ at.1
    pub end : IsEndPort f (vertex_of f p)
    pub within : part (vertex_of f p)

  pub in_part : (p : NodePort) (at : ℕ × ℕ) (h : Here p at) → IsEndPortIn part f (vertex_of f p) h.node
  in_part p at h = record { node_there = ap (slice_get f.nodes) (vertex_node f p) ∙ h.there; end_port = h.end; in_part = h.within }

  kind_told : (p : NodePort) (at : ℕ × ℕ) (h : Here p at) → is_switch_node told.cells at.0 ≡ is_switch h.node.kind
  kind_told p at h =
      ap (is_switch_node told.cells) (sym h.guid)
      ∙ ap (λ o. option_map_or (λ n. is_switch n.0) o false) (covers.tells_end_ports (vertex_of f p) h.node (in_part p at h)).kind

  pub usable : (p : NodePort) (at : ℕ × ℕ) (h : Here p at) → is_switch h.node.kind ≡ true → is_usable told.cells at.0 ≡ true
  usable p at h kind =
      and_from (is_switch_node told.cells at.0) (is_some (cap_of told.cells at.0)) (kind_told p at h ∙ kind)
      (ap (λ g. is_some (cap_of told.cells g)) (sym h.guid) ∙ ap is_some ((covers.tells_end_ports (vertex_of f p) h.node (in_part p at h)).cap kind))

  pub no_switch : (p : NodePort) (at : ℕ × ℕ) (h : Here p at) → is_switch h.node.kind ≡ false → is_usable told.cells at.0 ≡ false
  no_switch p at h kind = and_left (is_switch_node told.cells at.0) (is_some (cap_of told.cells at.0)) (kind_told p at h ∙ kind)

  held_at : (p : NodePort) (at : ℕ × ℕ) (h : Here p at) → HoldsPlanAt told.plan f (vertex_of f p) h.node
  held_at p at h = holds (vertex_of f p) h.node (in_part p at h)

  -- a switch goes by its table
  pub by_table : (p : NodePort) (at : ℕ × ℕ) (by_wire : Bool) (h : Here p at) → is_switch h.node.kind ≡ true
      → course f lid (record { at = p; by_wire = by_wire }) ≡ entry_course h.node.ports p.node (f.entry p.node lid)
  by_table p at by_wire h kind =
      let (top, top_is, below) = owned_to_top told.plan.given owner lid owned in
      let high : top ≤ f.top p.node = subst (λ (n : ℕ). top ≤ f.top n) (vertex_node f p) ((held_at p at h).top kind top top_is) in
      let low : lid ≤ f.top p.node = omega (arith, below, high) in
      let inside : (lid == 0 || nat_lt (f.top p.node) lid) ≡ false =
      or_from (lid == 0) (nat_lt (f.top p.node) lid) (ne_eqb lid 0 (λ z. omega (arith, z, some))) (le-ltb (f.top p.node) lid low) in
      switch_does f lid (record { at = p; by_wire = by_wire }) h.node h.there kind
      ∙ ap (λ t. cond t Drops (entry_course h.node.ports p.node (f.entry p.node lid))) inside

  -- an entry of its table is that of the plan's block
  pub block_entry : (p : NodePort) (at : ℕ × ℕ) (h : Here p at) (b : List ℕ) → block_at told.plan at.0 (lid / 64) ≡ Some b
      → slice_get b (lid % 64) ≡ Some (f.entry p.node lid)
  block_entry p at h b is =
      (held_at p at h).blocks (lid / 64) b (ap (λ g. block_at told.plan g (lid / 64)) h.guid ∙ is) (lid % 64) (omega arith)
      ∙ (λ i. Some (f.entry (vertex_node f p i) (whole_lid lid i)))

  -- a switch goes by the plan's entry
  by_planned : (p : NodePort) (at : ℕ × ℕ) (by_wire : Bool) (h : Here p at) → is_switch h.node.kind ≡ true → (entry : ℕ)
      → planned_entry told.plan at.0 lid ≡ entry → (entry == 255) ≡ false
      → course f lid (record { at = p; by_wire = by_wire }) ≡ entry_course h.node.ports p.node entry
  by_planned p at by_wire h kind entry e other =
      by_table p at by_wire h kind
      ∙ ap (entry_course h.node.ports p.node)
      (entry_there lid entry (f.entry p.node lid) (block_at told.plan at.0 (lid / 64)) (block_entry p at h) e other)

  -- the other end of a wire that the facts tell of
  record Over (p : NodePort) (into : ℕ × ℕ) : Type 0 where
    to : NodePort
    cable : f.across p ≡ Some to
    there : Here to into

  over : (p v : NodePort) (node : Node) (into : ℕ × ℕ) → IsEndPortIn part f v node → v.node ≡ p.node → part (vertex_of f p)
      → across told.cells node.guid p.port ≡ Some into → Over p into
  over p v node into here id within e =
      let there : IsNodeAt f p.node node = sym (ap (slice_get f.nodes) id) ∙ here.node_there in
      let w : HasWire part f node.guid p.port into.0 into.1 =
      covers.wires_there p node there within into.0 into.1 ((wire_law told.cells node.guid p.port into.0 into.1).0 e) in
      let from_end = vertex_is_end f w.from (is_fabric.cabled w.from w.to w.wire.cable) in
      let from_part : IsEndPortIn part f (vertex_of f w.from) w.from_named.node =
      record { node_there = ap (slice_get f.nodes) (vertex_node f w.from) ∙ w.from_named.node_there; end_port = from_end; in_part = w.in_part } in
      let at : w.from.node ≡ p.node =
      sym (vertex_node f w.from) ∙ covers.guids_distinct (vertex_of f w.from) v w.from_named.node node from_part here w.from_named.guid_is ∙ id in
      let same : w.from ≡ p = same_port w.from p at w.from_named.port_is in
      let back : f.across w.to ≡ Some w.from = is_fabric.both_ways w.from w.to w.wire.cable in
      record {
        to = w.to;
        cable = sym (ap f.across same) ∙ w.wire.cable;
        there = record {
          node = w.to_named.node;
          there = w.to_named.node_there;
          guid = w.to_named.guid_is;
          number = w.to_named.port_is;
          end = vertex_is_end f w.to (is_fabric.cabled w.to w.from back);
          within = closed w.from w.to w.in_part w.wire;
        };
      }

  -- whether an adapter's port has the LID
  pub its_own : (p : NodePort) (at : ℕ × ℕ) (h : Here p at) → is_switch h.node.kind ≡ false → is_port owner at ≡ true → owns f p lid ≡ true
  its_own p at h kind own =
      let parts = and_parts (at.0 == owner.node) (at.1 == owner.port) own in
      let vertex : vertex_of f p ≡ p = adapter_vertex f p (type_at f p.node h.node h.there ∙ kind) in
      let name : ◌≡◌ {A = EndPort} (record { node = h.node.guid; port = (vertex_of f p).port }) owner =
      (λ i. record {
        node = (h.guid ∙ eqb-true at.0 owner.node parts.0) i;
        port = (ap (λ (x : NodePort). x.port) vertex ∙ h.number ∙ eqb-true at.1 owner.port parts.1) i;
      }) in
      let given = ap (range_of told.plan.given) (sym name) ∙ (held_at p at h).lids in
      let its = given_parts (lid_of told.plan.given owner) (lmc_of told.plan.given owner) (f.base_lid (vertex_of f p)) (f.lmc (vertex_of f p)) given in
      let has = (inverse owner lid).0 owned in
      let base : has.0 ≡ f.base_lid p = same_Some has.0 (f.base_lid p) (sym has.1 ∙ its.0 ∙ ap (λ v. Some (f.base_lid v)) vertex) in
      let lmc : lmc_of told.plan.given owner ≡ f.lmc p = sym its.1 ∙ ap f.lmc vertex in
      (λ i. has_lid (sym base i) (sym lmc i) lid) ∙ has.2

  not_own : (p : NodePort) (at : ℕ × ℕ) (h : Here p at) → is_switch h.node.kind ≡ false → is_port owner at ≡ false → owns f p lid ≡ false
  not_own p at h kind other =
      elim (owns f p lid) as (λ b. owns f p lid ≡ b → b ≡ false) [
        | false ↦ λ e. refl
        | true ↦ λ e.
            let vertex : vertex_of f p ≡ p = adapter_vertex f p (type_at f p.node h.node h.there ∙ kind) in
            let name : EndPort = record { node = at.0; port = at.1 } in
            let named : ◌≡◌ {A = EndPort} (record { node = h.node.guid; port = (vertex_of f p).port }) name =
            (λ i. record { node = h.guid i; port = (ap (λ (x : NodePort). x.port) vertex ∙ h.number) i }) in
            let given = ap (range_of told.plan.given) (sym named) ∙ (held_at p at h).lids in
            let its = given_parts (lid_of told.plan.given name) (lmc_of told.plan.given name) (f.base_lid (vertex_of f p)) (f.lmc (vertex_of f p)) given in
            let has : has_lid (f.base_lid (vertex_of f p)) (lmc_of told.plan.given name) lid ≡ true =
            (λ i. has_lid (f.base_lid (vertex i)) ((sym its.1 ∙ ap f.lmc vertex) i) lid) ∙ e in
            let owned_here : owner_of told.plan.given lid ≡ Some name = (inverse name lid).1 (f.base_lid (vertex_of f p), its.0, has) in
            let same : name ≡ owner = same_Some name owner (sym owned_here ∙ owned) in
            let own : is_port owner at ≡ true =
            and_from (at.0 == owner.node) (at.1 == owner.port) (eq-eqb at.0 owner.node (ap (λ (x : EndPort). x.node) same))
            (eq-eqb at.1 owner.port (ap (λ (x : EndPort). x.port) same)) in
            absurd (cc)
      ] refl

  -- the way of the packet
  pub record Arrives (start : Standing) (wires : List Wire) : Type 0 where
    pub hops : List Hop
    pub end : Standing
    pub target : NodePort
    pub wires_are : AreWires f wires hops
    pub goes : Goes f lid start hops end
    pub delivers : course f lid end ≡ Delivers target
    pub there : Here target (owner.node, owner.port)

  ends : (p : NodePort) (at : ℕ × ℕ) (by_wire : Bool) → Here p at → step_at told lid owner at by_wire ≡ Takes owner.port → at.0 ≡ owner.node
      → Arrives (record { at = p; by_wire = by_wire }) []
  ends p at by_wire h takes its =
      let start : Standing = record { at = p; by_wire = by_wire } in
      let same_vertex : is_switch h.node.kind ≡ true → vertex_of f (port_at p.node 0) ≡ vertex_of f p =
      λ kind. (let switch = type_at f p.node h.node h.there ∙ kind in switch_vertex f (port_at p.node 0) switch ∙ sym (switch_vertex f p switch)) in
      elim (is_switch h.node.kind) as (λ t. is_switch h.node.kind ≡ t → Arrives start []) [
        | true ↦ λ kind.
            let step : by_entry (planned_entry told.plan at.0 lid) ≡ Takes owner.port =
            sym (ap (λ b. cond b (by_entry (planned_entry told.plan at.0 lid)) (by_adapter owner at by_wire)) (usable p at h kind)) ∙ takes in
            let zero_entry = takes_by (planned_entry told.plan at.0 lid) owner.port step in
            record {
              hops = [];
              end = start;
              target = port_at p.node 0;
              wires_are = tt;
              goes = refl;
              delivers = by_planned p at by_wire h kind 0 zero_entry.0 refl
                  ∙ ap (λ t. cond t Drops (Delivers (port_at p.node 0))) (le-ltb h.node.ports 0 (omega arith));
              there = record {
                node = h.node;
                there = h.there;
                guid = h.guid ∙ its;
                number = sym zero_entry.1;
                end = subst (IsEndPort f) (sym (same_vertex kind)) h.end;
                within = subst part (sym (same_vertex kind)) h.within;
              };
            }
        | false ↦ λ kind.
            let step : by_adapter owner at by_wire ≡ Takes owner.port =
            sym (ap (λ b. cond b (by_entry (planned_entry told.plan at.0 lid)) (by_adapter owner at by_wire)) (no_switch p at h kind)) ∙ takes in
            let own = takes_own owner at by_wire owner.port step in
            record {
              hops = [];
              end = start;
              target = p;
              wires_are = tt;
              goes = refl;
              delivers = adapter_takes f lid start h.node h.there kind (its_own p at h kind own.0);
              there = record { node = h.node; there = h.there; guid = h.guid ∙ its; number = h.number ∙ sym own.1; end = h.end; within = h.within };
            }
      ] refl

  -- a packet that leaves by a port of the fabric
  record LeavesOver (start : Standing) (w : Wire) : Type 0 where
    out : NodePort
    to : NodePort
    out_named : IsPortNamed f w.out.0 w.out.1 out
    leaves : course f lid start ≡ LeavesBy out
    cable : f.across out ≡ Some to
    there : Here to w.into

  crosses : (p : NodePort) (at : ℕ × ℕ) (by_wire : Bool) (w : Wire) → Here p at → step_at told lid owner at by_wire ≡ Leaves w.out.1 → w.out.0 ≡ at.0
      → across told.cells w.out.0 w.out.1 ≡ Some w.into → LeavesOver (record { at = p; by_wire = by_wire }) w
  crosses p at by_wire w h leaves of_node wire =
      let start : Standing = record { at = p; by_wire = by_wire } in
      let guid : h.node.guid ≡ w.out.0 = h.guid ∙ sym of_node in
      let told_wire : across told.cells h.node.guid w.out.1 ≡ Some w.into = ap (λ g. across told.cells g w.out.1) guid ∙ wire in
      elim (is_switch h.node.kind) as (λ t. is_switch h.node.kind ≡ t → LeavesOver start w) [
        | true ↦ λ kind.
            let step : by_entry (planned_entry told.plan at.0 lid) ≡ Leaves w.out.1 =
            sym (ap (λ b. cond b (by_entry (planned_entry told.plan at.0 lid)) (by_adapter owner at by_wire)) (usable p at h kind)) ∙ leaves in
            let (entry_is, not_0, not_255) = leaves_by (planned_entry told.plan at.0 lid) w.out.1 step in
            let out = port_at p.node w.out.1 in
            let is_switch_there : is_switch_at f p.node ≡ true = type_at f p.node h.node h.there ∙ kind in
            let vertex : vertex_of f out ≡ vertex_of f p = switch_vertex f out is_switch_there ∙ sym (switch_vertex f p is_switch_there) in
            let o = over out (vertex_of f p) h.node w.into (in_part p at h) (vertex_node f p) (subst part (sym vertex) h.within) told_wire in
            let (other, at_other, from_one, in_count) = is_fabric.cabled out o.to o.cable in
            let low : w.out.1 ≤ h.node.ports = subst (λ (n : Node). w.out.1 ≤ n.ports) (same_Some other h.node (sym at_other ∙ h.there)) in_count in
            let no_255 : (w.out.1 == 255) ≡ false = ap (λ n. n == 255) (sym entry_is) ∙ not_255 in
            let no_0 : (w.out.1 == 0) ≡ false = ap (λ n. n == 0) (sym entry_is) ∙ not_0 in
            let inside : (w.out.1 == 255 || nat_lt h.node.ports w.out.1) ≡ false =
            or_from (w.out.1 == 255) (nat_lt h.node.ports w.out.1) no_255 (le-ltb h.node.ports w.out.1 low) in
            record {
              out = out;
              to = o.to;
              out_named = record { node = h.node; node_there = h.there; guid_is = guid; port_is = refl };
              leaves = by_planned p at by_wire h kind w.out.1 entry_is no_255
                  ∙ ap (λ t. cond t Drops (cond (w.out.1 == 0) (Delivers (port_at p.node 0)) (LeavesBy out))) inside
                  ∙ ap (λ t. cond t (Delivers (port_at p.node 0)) (LeavesBy out)) no_0;
              cable = o.cable;
              there = o.there;
            }
        | false ↦ λ kind.
            let step : by_adapter owner at by_wire ≡ Leaves w.out.1 =
            sym (ap (λ b. cond b (by_entry (planned_entry told.plan at.0 lid)) (by_adapter owner at by_wire)) (no_switch p at h kind)) ∙ leaves in
            let (other, sent, port_is) = sends_other owner at by_wire w.out.1 step in
            let number : p.port ≡ w.out.1 = h.number ∙ sym port_is in
            let o = over p (vertex_of f p) h.node w.into (in_part p at h) (vertex_node f p) h.within (ap (across told.cells h.node.guid) number ∙ told_wire) in
            record {
              out = p;
              to = o.to;
              out_named = record { node = h.node; node_there = h.there; guid_is = guid; port_is = number };
              leaves = ap (λ b. course f lid (record { at = p; by_wire = b })) sent ∙ adapter_sends f lid p h.node h.there kind (not_own p at h kind other);
              cable = o.cable;
              there = o.there;
            }
      ] refl

  pub arrives : (wires : List Wire) (p : NodePort) (at : ℕ × ℕ) (by_wire : Bool) → Here p at → GoesAlong told lid owner at by_wire wires
      → Arrives (record { at = p; by_wire = by_wire }) wires
  arrives [] p at by_wire h (takes, its) = ends p at by_wire h takes its
  arrives (w ∷ wires) p at by_wire h (leaves, of_node, wire, rest) =
      let c = crosses p at by_wire w h leaves of_node wire in
      let on = arrives wires c.to w.into true c.there rest in
      record {
        hops = record { out = c.out; into = c.to } ∷ on.hops;
        end = on.end;
        target = on.target;
        wires_are = (
          c.out_named,
          record { node = c.there.node; node_there = c.there.there; guid_is = c.there.guid; port_is = c.there.number },
          on.wires_are,
        );
        goes = (c.leaves, c.cable, on.goes);
        delivers = on.delivers;
        there = on.there;
      }
