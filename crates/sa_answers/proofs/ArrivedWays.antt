-- A packet that is delivered goes, by the facts and the plan, along the same wires. They are at most one more than the switches of the plan.
use Rattle.std.proofs.Common.{◌≡◌, ◌≢◌, ◌≤◌, ◌/◌, ◌%◌, ℕ, suc, Bool, true, false, cond, ◌==◌, ◌||◌, List, [], ◌∷◌, length, map, filter, inl, inr, Some, refl, sym, ap, ◌∙◌, subst, arith}
use Rattle.std.proofs.lemmas.Bool.{and_from, eq-eqb, eqb-true, true≢false}
use Rattle.std.proofs.lemmas.Option.{get_or_from_slice_get, same_Some}
use Rattle.std.specs.Option.{option_map_or}
use Rattle.std.specs.Prelude.{Contains, is_some, nat_lt, slice_get, slice_index_or}
use Rattle.fabric_model.specs.declared.cable.NodePort.{NodePort}
use Rattle.fabric_model.specs.declared.course.Course.TheVariants.{Delivers, LeavesBy, Drops}
use Rattle.fabric_model.specs.Fabric.{Node, Fabric, IsFabric, IsNodeAt, IsPortNamed, is_switch_at, owns}
use Rattle.fabric_model.specs.FabricWalks.{IsWire, vertex_of}
use Rattle.fabric_model.specs.Forwarding.{Goes, Hop, Standing, arrived_at, course, entry_course}
use Rattle.fabric_model.proofs.FabricWalks.{port_at, switch_vertex, type_at, vertex_is_end}
use Rattle.fabric_model.proofs.NodeCourses.{adapter_drops, adapter_sends, adapter_takes}
use Rattle.smp_bytes.specs.NodeType.{is_switch}
use Rattle.fact_store.specs.View.{Facts, cells_of}
use Rattle.reply_facts.specs.Known.{cap_of}
use Rattle.subnet_view.specs.declared.end_port.EndPort.{EndPort}
use Rattle.subnet_view.specs.FabricAgreement.{Covers, HasWire, Part}
use Rattle.subnet_view.specs.Reading.{is_switch_node, is_usable, switches}
use Rattle.subnet_view.specs.Wires.{across}
use Rattle.subnet_view.proofs.Apart.{Apart}
use Rattle.subnet_view.proofs.Members.{contains_as, contains_cases, contains_first, contains_in, contains_none}
use Rattle.subnet_view.proofs.UsableSwitches.{switches_law, usable_law}
use Rattle.subnet_view.proofs.WireLaws.{wire_law}
use Rattle.lid_assign.specs.Lids.{lids, owner_of, top_of}
use Rattle.lft_blocks.specs.Arrival.{guid_at, switches_met}
use Rattle.lft_blocks.specs.Entries.{block_count}
use Rattle.lft_blocks.specs.InForce.{HoldsPlan}
use Rattle.lft_blocks.specs.Plan.{PlanValue, block_at, lid_routing, plan_of}
use Rattle.lft_blocks.specs.PlanLaws.{HasBlock, block_of}
use Rattle.lft_blocks.specs.Rule.{RuleValue}
use Rattle.lft_blocks.proofs.HeldEntries.{owned_to_top, planned_block}
use Rattle.packet_walks.proofs.Told.{IsClosed}
use Rattle.sa_answers.specs.Told.{Told}
use Rattle.sa_answers.specs.Way.{GoesAlong, Wire, by_adapter, by_entry, is_port, planned_entry, step_at}
use Rattle.sa_answers.specs.declared.way.WayStep.TheVariants.{Takes, Leaves, Drops as Dropped}
use Rattle.sa_answers.proofs.HeldWays.{Here, OwnsIts, block_entry, by_table, in_part, its_own, no_switch, usable}

-- the entry by which a switch takes a packet, and one by which it sends the packet out
entry_takes : (ports number entry : ℕ) (target : NodePort) → entry_course ports number entry ≡ Delivers target → (entry ≡ 0) × (target ≡ port_at number 0)
entry_takes ports number entry target e =
    elim (entry == 255 || nat_lt ports entry) as
    (λ b. cond b Drops (cond (entry == 0) (Delivers (port_at number 0)) (LeavesBy (port_at number entry))) ≡ Delivers target → (entry ≡ 0) × (target ≡ port_at number 0)) [
      | true ↦ λ t. absurd (cc)
      | false ↦ λ t.
          elim (entry == 0) as
          (λ b. (entry == 0) ≡ b → cond b (Delivers (port_at number 0)) (LeavesBy (port_at number entry)) ≡ Delivers target → (entry ≡ 0) × (target ≡ port_at number 0)) [
            | true ↦ λ z u. (eqb-true entry 0 z, cc)
            | false ↦ λ z u. absurd (cc)
          ] refl t
    ] e

entry_sends : (ports number entry : ℕ) (out : NodePort) → entry_course ports number entry ≡ LeavesBy out
    → ((entry == 0) ≡ false) × ((entry == 255) ≡ false) × (out ≡ port_at number entry)
entry_sends ports number entry out e =
    elim (entry == 255) as
    (λ b. (entry == 255) ≡ b → cond (b || nat_lt ports entry) Drops (cond (entry == 0) (Delivers (port_at number 0)) (LeavesBy (port_at number entry))) ≡ LeavesBy out
    → ((entry == 0) ≡ false) × ((entry == 255) ≡ false) × (out ≡ port_at number entry)) [
      | true ↦ λ y t. absurd (cc)
      | false ↦ λ y t.
          elim (nat_lt ports entry) as
          (λ b. cond b Drops (cond (entry == 0) (Delivers (port_at number 0)) (LeavesBy (port_at number entry))) ≡ LeavesBy out
          → ((entry == 0) ≡ false) × ((entry == 255) ≡ false) × (out ≡ port_at number entry)) [
            | true ↦ λ u. absurd (cc)
            | false ↦ λ u.
                elim (entry == 0) as
                (λ b. (entry == 0) ≡ b → cond b (Delivers (port_at number 0)) (LeavesBy (port_at number entry)) ≡ LeavesBy out
                → ((entry == 0) ≡ false) × ((entry == 255) ≡ false) × (out ≡ port_at number entry)) [
                  | true ↦ λ z v. absurd (cc)
                  | false ↦ λ z v. (z, y, cc)
                ] refl u
          ] t
    ] refl e

-- a switch by its entry
sends_by : (entry : ℕ) → (entry == 0) ≡ false → (entry == 255) ≡ false → by_entry entry ≡ Leaves entry
sends_by entry z y = ap (λ b. cond b (Takes 0) (cond (entry == 255) Dropped (Leaves entry))) z ∙ ap (λ b. cond b Dropped (Leaves entry)) y

-- an adapter's port takes what is its own
takes_at : (owner : EndPort) (at : ℕ × ℕ) (by_wire : Bool) → at.0 ≡ owner.node → at.1 ≡ owner.port → by_adapter owner at by_wire ≡ Takes owner.port
takes_at owner at by_wire node port =
    let own : is_port owner at ≡ true =
    and_from (at.0 == owner.node) (at.1 == owner.port) (eq-eqb at.0 owner.node node) (eq-eqb at.1 owner.port port) in
    ap (λ b. cond b (Takes at.1) (cond by_wire Dropped (Leaves at.1))) own ∙ ap Takes port

-- the switches that a packet meets, from a port on
met_at_switch : (f : Fabric) (p : NodePort) (hops : List Hop) → is_switch_at f p.node ≡ true
    → switches_met f p hops ≡ guid_at f p ∷ map (guid_at f) (filter (λ (q : NodePort). is_switch_at f q.node) (map (λ (h : Hop). h.into) hops))
met_at_switch f p hops e =
    let on : List NodePort = filter (λ (q : NodePort). is_switch_at f q.node) (map (λ (h : Hop). h.into) hops) in
    ap (λ t. map (guid_at f) (cond t (p ∷ on) on)) e

met_at_adapter : (f : Fabric) (p : NodePort) (hops : List Hop) → is_switch_at f p.node ≡ false
    → switches_met f p hops ≡ map (guid_at f) (filter (λ (q : NodePort). is_switch_at f q.node) (map (λ (h : Hop). h.into) hops))
met_at_adapter f p hops e =
    let on : List NodePort = filter (λ (q : NodePort). is_switch_at f q.node) (map (λ (h : Hop). h.into) hops) in
    ap (λ t. map (guid_at f) (cond t (p ∷ on) on)) e

-- a packet that is dropped is not delivered
not_dropped : (f : Fabric) (lid : ℕ) (s end : Standing) (hops : List Hop) (target : NodePort) → Goes f lid s hops end → course f lid end ≡ Delivers target
    → course f lid s ≡ Drops → ⊥
not_dropped f lid s end [] target goes delivers drops = let same : course f lid s ≡ course f lid end = ap (course f lid) goes in absurd (cc)
not_dropped f lid s end (h ∷ hops) target goes delivers drops = let leaves = goes.0 in absurd (cc)

module _ (told : Told) (f : Fabric) (part : Part) (is_fabric : IsFabric f) (closed : IsClosed part f) (covers : Covers part told.cells f)
    (holds : HoldsPlan part told.plan f) (inverse : OwnsIts told.plan.given) (lid : ℕ) (owner : EndPort) (owned : owner_of told.plan.given lid ≡ Some owner)
    (some : 1 ≤ lid) (rule : RuleValue) (lmc : ℕ) (planned : Facts) (plan_is : told.plan ≡ plan_of rule lmc (cells_of planned))
    (describes : Covers part (cells_of planned) f) where
  abbrev IsHere : NodePort → ℕ × ℕ → Type 0
  IsHere p at = Here told f part is_fabric closed covers holds inverse lid owner owned some p at

  -- a switch of the part is one of the plan
  planned_switch : (p : NodePort) (at : ℕ × ℕ) (h : IsHere p at) → is_switch h.node.kind ≡ true → is_usable (cells_of planned) h.node.guid ≡ true
  planned_switch p at h kind =
      let tells = describes.tells_end_ports (vertex_of f p) h.node (in_part told f part is_fabric closed covers holds inverse lid owner owned some p at h) in
      and_from (is_switch_node (cells_of planned) h.node.guid) (is_some (cap_of (cells_of planned) h.node.guid))
      (ap (λ o. option_map_or (λ n. is_switch n.0) o false) tells.kind ∙ kind) (ap is_some (tells.cap kind))

  -- so the plan has its entry
  entry_told : (p : NodePort) (at : ℕ × ℕ) (h : IsHere p at) → is_switch h.node.kind ≡ true → planned_entry told.plan at.0 lid ≡ f.entry p.node lid
  entry_told p at h kind =
      let cells = cells_of planned in
      let (top, top_is, below) = owned_to_top told.plan.given owner lid owned in
      let count : block_count (top_of (lids lmc cells)) ≡ suc (top / 64) =
      ap block_count (ap (λ (x : PlanValue). top_of x.given) (sym plan_is) ∙ top_is) in
      let has : HasBlock lmc cells h.node.guid (lid / 64) =
      ((usable_law cells h.node.guid).0 (planned_switch p at h kind), omega (arith, count, below)) in
      let routing = lid_routing rule lmc cells (lids lmc cells) in
      let block = block_of routing lmc cells h.node.guid (lid / 64) in
      let there : block_at told.plan at.0 (lid / 64) ≡ Some block =
      ap (λ g. block_at told.plan g (lid / 64)) (sym h.guid)
      ∙ ap (λ (x : PlanValue). block_at x h.node.guid (lid / 64)) plan_is
      ∙ planned_block routing lmc planned h.node.guid (lid / 64) has in
      let stands = block_entry told f part is_fabric closed covers holds inverse lid owner owned some p at h block there in
      ap (λ o. option_map_or (λ (b : List ℕ). slice_index_or b (lid % 64) 255) o 255) there
      ∙ get_or_from_slice_get block (lid % 64) (f.entry p.node lid) 255 stands

  -- a step of a switch, and one of an adapter's port
  switch_step : (p : NodePort) (at : ℕ × ℕ) (by_wire : Bool) (h : IsHere p at) → is_switch h.node.kind ≡ true
      → step_at told lid owner at by_wire ≡ by_entry (f.entry p.node lid)
  switch_step p at by_wire h kind =
      ap (λ b. cond b (by_entry (planned_entry told.plan at.0 lid)) (by_adapter owner at by_wire))
      (usable told f part is_fabric closed covers holds inverse lid owner owned some p at h kind)
      ∙ ap by_entry (entry_told p at h kind)

  adapter_step : (p : NodePort) (at : ℕ × ℕ) (by_wire : Bool) (h : IsHere p at) → is_switch h.node.kind ≡ false
      → step_at told lid owner at by_wire ≡ by_adapter owner at by_wire
  adapter_step p at by_wire h kind =
      ap (λ b. cond b (by_entry (planned_entry told.plan at.0 lid)) (by_adapter owner at by_wire))
      (no_switch told f part is_fabric closed covers holds inverse lid owner owned some p at h kind)

  -- a wire that a packet takes, by the facts
  record Crossed (at : ℕ × ℕ) (out : ℕ) (into : NodePort) : Type 0 where
    far : ℕ × ℕ
    wire : across told.cells at.0 out ≡ Some far
    there : IsHere into far

  crossed : (p out into : NodePort) (at : ℕ × ℕ) → IsHere p at → out.node ≡ p.node → vertex_of f out ≡ vertex_of f p → f.across out ≡ Some into → out ≢ into
      → Crossed at out.port into
  crossed p out into at h of_node vertex cable different =
      let ends = is_fabric.cabled into out (is_fabric.both_ways out into cable) in
      let (node, node_there, from_one, in_count) = ends in
      let wire : IsWire f out into = record { cable = cable; different = different } in
      let within : part (vertex_of f out) = subst part (sym vertex) h.within in
      let has : HasWire part f at.0 out.port node.guid into.port = record {
        from = out;
        to = into;
        from_named = record { node = h.node; node_there = ap (slice_get f.nodes) of_node ∙ h.there; guid_is = h.guid; port_is = refl };
        to_named = record { node = node; node_there = node_there; guid_is = refl; port_is = refl };
        wire = wire;
        in_part = within;
      } in
      record {
        far = (node.guid, into.port);
        wire = (wire_law told.cells at.0 out.port node.guid into.port).1 (covers.wires_told at.0 out.port node.guid into.port has);
        there = record {
          node = node;
          there = node_there;
          guid = refl;
          number = refl;
          end = vertex_is_end f into ends;
          within = closed out into within wire;
        };
      }

  -- the GUID of a switch at which a packet is
  guid_here : (p : NodePort) (at : ℕ × ℕ) (h : IsHere p at) → guid_at f p ≡ h.node.guid
  guid_here p at h = ap (λ o. option_map_or (λ (n : Node). n.guid) o 0) h.there

  -- the way of a packet by the facts, and which switches it meets
  pub record Walked (p : NodePort) (at : ℕ × ℕ) (by_wire : Bool) (hops : List Hop) : Type 0 where
    pub wires : List Wire
    pub goes : GoesAlong told lid owner at by_wire wires
    pub as_many : length wires ≡ length hops
    pub few : length hops ≤ suc (length (switches_met f p hops))
    pub fewer : by_wire ≡ true → length hops ≤ length (switches_met f p hops)
    pub met : (g : ℕ) → Contains (switches_met f p hops) g → Contains (switches (cells_of planned)) g

  module _ (target : NodePort) (named : IsPortNamed f owner.node owner.port target) where
    -- the node at which the packet is delivered is the owner's
    its_node : (p : NodePort) (at : ℕ × ℕ) → IsHere p at → target.node ≡ p.node → at.0 ≡ owner.node
    its_node p at h same =
        let node : h.node ≡ named.node = same_Some h.node named.node (sym h.there ∙ ap (slice_get f.nodes) (sym same) ∙ named.node_there) in
        sym h.guid ∙ ap (λ (n : Node). n.guid) node ∙ named.guid_is

    -- what is met at a switch
    met_here : (p : NodePort) (at : ℕ × ℕ) (h : IsHere p at) → is_switch h.node.kind ≡ true → (rest : List ℕ)
        → ((g : ℕ) → Contains rest g → Contains (switches (cells_of planned)) g)
        → (g : ℕ) → Contains (guid_at f p ∷ rest) g → Contains (switches (cells_of planned)) g
    met_here p at h kind rest others g c =
        let here : Contains (switches (cells_of planned)) h.node.guid =
        ((switches_law planned).0 h.node.guid).1 ((usable_law (cells_of planned) h.node.guid).0 (planned_switch p at h kind)) in
        elim (contains_cases (guid_at f p) g rest c) [
          | inl e ↦ contains_as (switches (cells_of planned)) (sym (guid_here p at h) ∙ e) here
          | inr k ↦ others g k
        ]

    -- it is delivered here
    ends_here : (p : NodePort) (at : ℕ × ℕ) (by_wire : Bool) (h : IsHere p at) → course f lid (record { at = p; by_wire = by_wire }) ≡ Delivers target
        → Walked p at by_wire []
    ends_here p at by_wire h delivers =
        elim (is_switch h.node.kind) as (λ t. is_switch h.node.kind ≡ t → Walked p at by_wire []) [
          | true ↦ λ kind.
              let (zero_entry, target_is) =
              entry_takes h.node.ports p.node (f.entry p.node lid) target
              (sym (by_table told f part is_fabric closed covers holds inverse lid owner owned some p at by_wire h kind) ∙ delivers) in
              let met_is = met_at_switch f p [] (type_at f p.node h.node h.there ∙ kind) in
              let port : 0 ≡ owner.port = ap (λ (x : NodePort). x.port) (sym target_is) ∙ named.port_is in
              record {
                wires = [];
                goes = (
                  switch_step p at by_wire h kind ∙ ap by_entry zero_entry ∙ ap Takes port,
                  its_node p at h (ap (λ (x : NodePort). x.node) target_is),
                );
                as_many = refl;
                few = omega arith;
                fewer = λ w. omega arith;
                met = λ g c. met_here p at h kind [] (λ x k. absurd (contains_none x k)) g (contains_in g met_is c);
              }
          | false ↦ λ kind.
              let met_is = met_at_adapter f p [] (type_at f p.node h.node h.there ∙ kind) in
              let same : target ≡ p = taken_here p by_wire h.node h.there kind delivers in
              let port : at.1 ≡ owner.port = sym h.number ∙ ap (λ (x : NodePort). x.port) (sym same) ∙ named.port_is in
              let its = its_node p at h (ap (λ (x : NodePort). x.node) same) in
              record {
                wires = [];
                goes = (adapter_step p at by_wire h kind ∙ takes_at owner at by_wire its port, its);
                as_many = refl;
                few = omega arith;
                fewer = λ w. omega arith;
                met = λ g c. absurd (contains_none g (contains_in g met_is c));
              }
        ] refl
      where
        taken_here : (p : NodePort) (by_wire : Bool) (node : Node) → IsNodeAt f p.node node → is_switch node.kind ≡ false
            → course f lid (record { at = p; by_wire = by_wire }) ≡ Delivers target → target ≡ p
        taken_here p by_wire node there kind delivers =
            elim (owns f p lid) as (λ t. owns f p lid ≡ t → target ≡ p) [
              | true ↦ λ own. (let takes = adapter_takes f lid (record { at = p; by_wire = by_wire }) node there kind own in cc)
              | false ↦ λ other.
                  elim by_wire as (λ w. course f lid (record { at = p; by_wire = w }) ≡ Delivers target → target ≡ p) [
                    | true ↦ λ d. (let drops = adapter_drops f lid p node there kind other in absurd (cc))
                    | false ↦ λ d. (let sends = adapter_sends f lid p node there kind other in absurd (cc))
                  ] delivers
            ] refl

    -- it goes on
    pub walked : (hops : List Hop) (p : NodePort) (at : ℕ × ℕ) (by_wire : Bool) (end : Standing) → IsHere p at
        → Goes f lid (record { at = p; by_wire = by_wire }) hops end → course f lid end ≡ Delivers target → Apart (switches_met f p hops)
        → Walked p at by_wire hops
    walked [] p at by_wire end h goes delivers apart = ends_here p at by_wire h (ap (course f lid) goes ∙ delivers)
    walked (hop ∷ hops) p at by_wire end h (leaves, cable, on) delivers apart =
        elim (is_switch h.node.kind) as (λ t. is_switch h.node.kind ≡ t → Walked p at by_wire (hop ∷ hops)) [
          | true ↦ λ kind.
              let switch : is_switch_at f p.node ≡ true = type_at f p.node h.node h.there ∙ kind in
              let (not_0, not_255, out_is) =
              entry_sends h.node.ports p.node (f.entry p.node lid) hop.out
              (sym (by_table told f part is_fabric closed covers holds inverse lid owner owned some p at by_wire h kind) ∙ leaves) in
              let of_node : hop.out.node ≡ p.node = ap (λ (x : NodePort). x.node) out_is in
              let entry_is : f.entry p.node lid ≡ hop.out.port = ap (λ (x : NodePort). x.port) (sym out_is) in
              let vertex : vertex_of f hop.out ≡ vertex_of f p =
              switch_vertex f hop.out (ap (is_switch_at f) of_node ∙ switch) ∙ ap (λ n. port_at n 0) of_node ∙ sym (switch_vertex f p switch) in
              let met_is : switches_met f p (hop ∷ hops) ≡ guid_at f p ∷ switches_met f hop.into hops = met_at_switch f p (hop ∷ hops) switch in
              let once : Apart (guid_at f p ∷ switches_met f hop.into hops) = subst (λ (gs : List ℕ). Apart gs) met_is apart in
              let different : hop.out ≢ hop.into =
              λ same.
              let node : hop.into.node ≡ p.node = ap (λ (x : NodePort). x.node) (sym same) ∙ of_node in
              let again = met_at_switch f hop.into hops (ap (is_switch_at f) node ∙ switch) in
              let there : guid_at f hop.into ≡ guid_at f p =
              ap (λ (n : ℕ). option_map_or (λ (x : Node). x.guid) (slice_get f.nodes n) 0) node in
              once.0 (contains_in (guid_at f p) (sym again) (contains_first _ there)) in
              let c = crossed p hop.out hop.into at h of_node vertex cable different in
              let rest = walked hops hop.into c.far true end c.there on delivers once.1 in
              let below = rest.fewer refl in
              let long : length (switches_met f p (hop ∷ hops)) ≡ suc (length (switches_met f hop.into hops)) = ap length met_is in
              record {
                wires = record { out = (at.0, hop.out.port); into = c.far } ∷ rest.wires;
                goes = (
                  switch_step p at by_wire h kind ∙ sends_by (f.entry p.node lid) not_0 not_255 ∙ ap Leaves entry_is,
                  refl,
                  c.wire,
                  rest.goes,
                );
                as_many = ap suc rest.as_many;
                few = omega (arith, below, long);
                fewer = λ w. omega (arith, below, long);
                met = λ g k. met_here p at h kind (switches_met f hop.into hops) rest.met g (contains_in g met_is k);
              }
          | false ↦ λ kind.
              let adapter : is_switch_at f p.node ≡ false = type_at f p.node h.node h.there ∙ kind in
              let (other, sent, out_is) = sent_here p by_wire h.node h.there kind hop.out leaves in
              let met_is : switches_met f p (hop ∷ hops) ≡ switches_met f hop.into hops = met_at_adapter f p (hop ∷ hops) adapter in
              let different : hop.out ≢ hop.into =
              λ same.
              let back : hop.into ≡ p = sym same ∙ out_is in
              not_dropped f lid (arrived_at hop.into) end hops target on delivers
              (ap (λ x. course f lid (arrived_at x)) back ∙ adapter_drops f lid p h.node h.there kind other) in
              let c = crossed p hop.out hop.into at h (ap (λ (x : NodePort). x.node) out_is) (ap (vertex_of f) out_is) cable different in
              let rest = walked hops hop.into c.far true end c.there on delivers (subst (λ (gs : List ℕ). Apart gs) met_is apart) in
              let below = rest.fewer refl in
              let long : length (switches_met f p (hop ∷ hops)) ≡ length (switches_met f hop.into hops) = ap length met_is in
              let number : at.1 ≡ hop.out.port = sym h.number ∙ ap (λ (x : NodePort). x.port) (sym out_is) in
              let not_own : is_port owner at ≡ false =
              elim (is_port owner at) as (λ b. is_port owner at ≡ b → b ≡ false) [
                | true ↦ λ own. absurd (true≢false (sym (its_own told f part is_fabric closed covers holds inverse lid owner owned some p at h kind own) ∙ other))
                | false ↦ λ e. refl
              ] refl in
              record {
                wires = record { out = (at.0, hop.out.port); into = c.far } ∷ rest.wires;
                goes = (
                  adapter_step p at by_wire h kind
                      ∙ ap (λ b. cond b (Takes at.1) (cond by_wire Dropped (Leaves at.1))) not_own
                      ∙ ap (λ b. cond b Dropped (Leaves at.1)) sent
                      ∙ ap Leaves number,
                  refl,
                  c.wire,
                  rest.goes,
                );
                as_many = ap suc rest.as_many;
                few = omega (arith, below, long);
                fewer = λ w. absurd (true≢false (sym w ∙ sent));
                met = λ g k. rest.met g (contains_in g met_is k);
              }
        ] refl
      where
        sent_here : (p : NodePort) (by_wire : Bool) (node : Node) → IsNodeAt f p.node node → is_switch node.kind ≡ false → (out : NodePort)
            → course f lid (record { at = p; by_wire = by_wire }) ≡ LeavesBy out → (owns f p lid ≡ false) × (by_wire ≡ false) × (out ≡ p)
        sent_here p by_wire node there kind out leaves =
            elim (owns f p lid) as (λ t. owns f p lid ≡ t → (owns f p lid ≡ false) × (by_wire ≡ false) × (out ≡ p)) [
              | true ↦ λ own. (let takes = adapter_takes f lid (record { at = p; by_wire = by_wire }) node there kind own in absurd (cc))
              | false ↦ λ other.
                  elim by_wire as (λ w. course f lid (record { at = p; by_wire = w }) ≡ LeavesBy out → (owns f p lid ≡ false) × (w ≡ false) × (out ≡ p)) [
                    | true ↦ λ d. (let drops = adapter_drops f lid p node there kind other in absurd (cc))
                    | false ↦ λ d. (let sends = adapter_sends f lid p node there kind other in (other, refl, cc))
                  ] leaves
            ] refl
