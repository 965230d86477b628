-- By the plan's tables a packet comes from each end port of the part to its LID's owner.
use Rattle.std.proofs.Common.{◌≡◌, ◌≤◌, ℕ, suc, List, [], ◌∷◌, ◌++◌, refl, sym, ap, ◌∙◌, subst, arith, Bool, true, false, cond, not, map, length}
use Rattle.std.proofs.lemmas.Bool.{and_left, and_right, both_ways}
use Rattle.std.specs.Prelude.{Some}
use Rattle.fabric_model.specs.declared.cable.NodePort.{NodePort}
use Rattle.fabric_model.specs.declared.course.Course.TheVariants.{Delivers}
use Rattle.fabric_model.specs.Fabric.{Fabric, IsEndPort, is_switch_at, owns}
use Rattle.fabric_model.specs.FabricWalks.{IsJoinedTo}
use Rattle.fabric_model.specs.Forwarding.{Standing, sent_from, arrived_at, course, Hop, Goes, IsDelivered}
use Rattle.fabric_model.proofs.FabricWalks.{port_at, same_port, type_at}
use Rattle.fabric_model.proofs.NodeCourses.{adapter_sends, adapter_takes}
use Rattle.fact_store.specs.View.{Facts, cells_of}
use Rattle.subnet_view.specs.declared.end_port.EndPort.{EndPort}
use Rattle.subnet_view.specs.Reading.{Cells}
use Rattle.subnet_view.proofs.Covered.{covers}
use Rattle.subnet_view.proofs.EndPortList.{end_ports_law}
use Rattle.lid_assign.specs.Lids.{IsNoRoom, lids, owner_of}
use Rattle.lid_assign.proofs.LidLaws.{lids_law}
use Rattle.lid_assign.proofs.Owners.{owners_are_inverse}
use Rattle.subnet_view.specs.Graph.{graph_of}
use Rattle.subnet_view.specs.Components.{in_one_component}
use Rattle.subnet_view.specs.Routing.{Routing, IsRouting, stops, Leads}
use Rattle.subnet_view.proofs.Components.{component_itself}
use Rattle.lft_blocks.specs.Rule.{RuleValue, routing_by}
use Rattle.lft_blocks.proofs.RulesRoute.{lids_are_routed}
use Rattle.lft_blocks.proofs.Unnumbered.{all_arrive_by_rule}
use Rattle.lft_blocks.specs.LidNumbers.{lid_numbers}
use Rattle.subnet_view.proofs.GraphSwitches.{usable_switch}
use Rattle.subnet_view.proofs.Graphs.{graph_law}
use Rattle.subnet_view.proofs.PartWires.{IsTold, SwitchIn, one_index, switch_at_index}
use Rattle.subnet_view.proofs.Joined.{LiesAt, HasAttachment, itself, by_wire, Meets, same, wired, apart, own_attachment, switch_in_graph, joined_meet}
use Rattle.lft_blocks.specs.Plan.{lid_routing, plan_by, plan_of}
use Rattle.lft_blocks.specs.Arrival.{guid_at, is_between_switches, switch_hops, switches_met, IsRoutedWay}
use Rattle.lft_blocks.specs.Arrival.{EveryPacketArrives, PacketsArriveByEachRouting, PacketsArriveWhereCovered}
use Rattle.lft_blocks.specs.InForce.{HoldsPlan, IsInForceWithin}
use Rattle.lft_blocks.proofs.HeldEntries.{entry_of, planned_block}
use Rattle.lft_blocks.proofs.OwnerPorts.{IsPlanned, OwnerPort, owner_port, owner_there, lid_is_owners, owner_attachment}
use Rattle.lft_blocks.proofs.Courses.{WayTaken, guid_there, way_taken, goes_on, switch_takes, switch_sends, entry_at_attachment}
use Rattle.lft_blocks.proofs.Routed.{arrival_ports, arrivals, adapter_hops, way_arrivals, way_switch_hops, way_adapter_hops, routed_by_way, routed_past_switches}

-- from a source to the switch that it lies at: no wire, or the one of an adapter port
pub record Started (f : Fabric) (lid : ℕ) (source h : NodePort) (a : ℕ) : Type 0 where
  pub before : List Hop
  pub start : Standing
  pub goes : Goes f lid (sent_from source) before start
  pub here : start.at.node ≡ h.node
  pub met : (rest : List Hop) → switches_met f source (before ++ rest) ≡ a ∷ arrivals f rest
  pub between : (rest : List Hop) → switch_hops f (before ++ rest) ≡ switch_hops f rest
  pub few : (rest : List Hop) → length (adapter_hops f (before ++ rest)) ≤ suc (length (adapter_hops f rest))

-- from the owner's switch to the owner: no wire, or the one to an adapter port
pub record Ended (f : Fabric) (lid : ℕ) (last : Standing) (target : NodePort) : Type 0 where
  pub after : List Hop
  pub end : Standing
  pub goes : Goes f lid last after end
  pub takes : course f lid end ≡ Delivers target
  pub met : arrivals f after ≡ []
  pub between : switch_hops f after ≡ []
  pub few : length (adapter_hops f after) ≤ 1

one_more : (t : Bool) (h : Hop) (hops : List Hop) → length (cond t (h ∷ hops) hops) ≤ suc (length hops)
one_more true h hops = omega arith
one_more false h hops = omega arith

module _ {rule : Routing} {lmc : ℕ} {cells : Cells} {f : Fabric} {origin : NodePort} {lid : ℕ} {owner : EndPort} (routing : IsRouting (graph_of cells) rule)
    (told : IsTold cells f origin) (planned : IsPlanned rule lmc cells f origin lid owner) (target : OwnerPort f origin lid owner) where
  abbrev Delivery : NodePort → Type 0
  Delivery source = (hops : List Hop) × IsDelivered f lid source hops target.port × IsRoutedWay rule f source hops

  starts : (source : NodePort) {h : NodePort} {a : ℕ} → IsEndPort f source → (is_switch_at f source.node ≡ false → owns f source lid ≡ false)
      → HasAttachment f origin source h a → Started f lid source h a
  starts source {h = h} {a = a} (node, at, number) other attachment = from_port attachment.lies
    where
      from_port : LiesAt f source h → Started f lid source h a
      from_port (itself s z e) =
          record {
            before = [];
            start = sent_from source;
            goes = refl;
            here = ap (λ (p : NodePort). p.node) e;
            met = λ rest.
                ap (λ t. map (guid_at f) (cond t (source ∷ arrival_ports f rest) (arrival_ports f rest))) s
                ∙ ap (λ g. g ∷ arrivals f rest) (guid_there source attachment.there (ap (λ (p : NodePort). p.node) e));
            between = λ rest. refl;
            few = λ rest. omega arith;
          }
      from_port (by_wire s e) =
          let hop : Hop = record { out = source; into = h } in
          let at_switch = switch_at_index attachment.there in
          record {
            before = hop ∷ [];
            start = arrived_at h;
            goes = (adapter_sends f lid source node at (sym (type_at f source.node node at) ∙ s) (other s), e, refl);
            here = refl;
            met = λ rest.
                let arrived : List NodePort = arrival_ports f rest in
                let met_there : List NodePort = cond (is_switch_at f h.node) (h ∷ arrived) arrived in
                ap (λ t. map (guid_at f) (cond t (source ∷ met_there) met_there)) s
                ∙ ap (λ t. map (guid_at f) (cond t (h ∷ arrived) arrived)) at_switch
                ∙ ap (λ g. g ∷ arrivals f rest) (guid_there h attachment.there refl);
            between = λ rest. ap (λ t. cond t (hop ∷ switch_hops f rest) (switch_hops f rest))
                (and_left (is_switch_at f source.node) (is_switch_at f h.node) s);
            few = λ rest. one_more (not (is_between_switches f hop)) hop (adapter_hops f rest);
          }

  ends : {k : NodePort} {b : ℕ} (last : Standing) → HasAttachment f origin target.port k b → SwitchIn f origin last.at.node b → Ended f lid last target.port
  ends {k = k} {b = b} last attachment there = to_port attachment.lies
    where
      node_is : last.at.node ≡ k.node
      node_is = one_index told there attachment.there

      entry : entry_of rule lmc cells b lid ≡ k.port
      entry = entry_at_attachment told planned (owner_attachment told planned target attachment)

      to_port : LiesAt f target.port k → Ended f lid last target.port
      to_port (itself s z e) =
          let zero_port : k.port ≡ 0 = sym (ap (λ (p : NodePort). p.port) e) ∙ z in
          record {
            after = [];
            end = last;
            goes = refl;
            takes = switch_takes told planned last there refl (entry ∙ zero_port)
                ∙ ap Delivers (same_port (port_at last.at.node 0) k node_is (sym zero_port) ∙ sym e);
            met = refl;
            between = refl;
            few = omega arith;
          }
      to_port (by_wire s e) =
          let out : NodePort = port_at last.at.node k.port in
          let hop : Hop = record { out = out; into = target.port } in
          let wire : f.across out ≡ Some target.port = ap f.across (same_port out k node_is refl) ∙ told.is_fabric.both_ways target.port k e in
          record {
            after = hop ∷ [];
            end = arrived_at target.port;
            goes = (switch_sends told planned k.port last target.port there refl entry wire, wire, refl);
            takes = adapter_takes f lid (arrived_at target.port) target.named.node target.named.node_there
                (sym (type_at f target.port.node target.named.node target.named.node_there) ∙ s) target.own_lid;
            met = ap (λ t. map (guid_at f) (cond t (target.port ∷ []) [])) s;
            between = ap (λ t. cond t (hop ∷ []) []) (and_right (is_switch_at f out.node) (is_switch_at f target.port.node) s);
            few = one_more (not (is_between_switches f hop)) hop [];
          }

  -- the wires to the first switch, those of the way, and those to the owner
  joined_parts : (source : NodePort) {h : NodePort} {a b n : ℕ} → rule.cost a b ≡ Some n
      → (way : Leads (graph_of cells) rule lid a b n) (first : Started f lid source h a)
      (taken : WayTaken f origin lid first.start a b way.edges)
      → Ended f lid taken.end target.port → Delivery source
  joined_parts source {a = a} {b = b} {n = n} its_cost way first taken last =
      let es = way.edges in
      let rest = taken.hops ++ last.after in
      let met : switches_met f source (first.before ++ rest) ≡ stops a es =
      first.met rest ∙ ap (λ gs. a ∷ gs) (way_arrivals f es taken.hops last.after a taken.follows last.met) in
      let between : switch_hops f (first.before ++ rest) ≡ taken.hops =
      first.between rest ∙ way_switch_hops f es taken.hops last.after a taken.follows last.between in
      let few : length (adapter_hops f (first.before ++ rest)) ≤ 2 =
      omega (arith, first.few rest, ap length (way_adapter_hops f es taken.hops last.after a taken.follows), last.few) in (
        first.before ++ rest,
        (
          last.end,
          goes_on f lid first.before rest (sent_from source) first.start last.end first.goes
              (goes_on f lid taken.hops last.after first.start taken.end last.end taken.goes last.goes),
          last.takes,
        ),
        routed_by_way rule cells f source (first.before ++ rest) taken.hops lid a b n its_cost way taken.follows met between few,
      )

  -- over switches of one component
  over_switches : (source : NodePort) {h k : NodePort} {a b : ℕ} → IsEndPort f source → (is_switch_at f source.node ≡ false → owns f source lid ≡ false)
      → HasAttachment f origin source h a → HasAttachment f origin target.port k b → in_one_component (graph_of cells) a b ≡ true → Delivery source
  over_switches source {a = a} {b = b} is_end other from to joins =
      let a_switch = switch_in_graph told from.there in
      let (n, its_cost) = routing.reaches a b a_switch (switch_in_graph told to.there) joins in
      let way = routing.leads lid a b n a_switch its_cost in
      let first = starts source is_end other from in
      let taken = way_taken told planned (owner_attachment told planned target to) way.edges first.start from.there first.here way.by_rule way.passes in
      joined_parts source its_cost way first taken (ends taken.end to taken.there)

  from_switch : (source : NodePort) → IsEndPort f source → IsJoinedTo f origin source → is_switch_at f source.node ≡ true
      → Meets cells f origin source target.port → Delivery source
  from_switch source is_end j s (same e) =
      let (g, attachment) = own_attachment f origin source is_end j s in
      over_switches source is_end (λ r. absurd (cc)) attachment (subst (λ (p : NodePort). HasAttachment f origin p source g) e attachment)
      (component_itself (graph_of cells) told.is_graph g (switch_in_graph told attachment.there))
  from_switch source is_end j s (wired r t e) = absurd (cc)
  from_switch source is_end j s (apart h k a b from to e) = over_switches source is_end (λ r. absurd (cc)) from to e

  from_adapter : (source : NodePort) → IsEndPort f source → is_switch_at f source.node ≡ false → owns f source lid ≡ false
      → Meets cells f origin source target.port → Delivery source
  from_adapter source is_end s other (same e) = absurd (both_ways (owns f source lid) other (ap (λ p. owns f p lid) e ∙ target.own_lid))
  from_adapter source (node, at, number) s other (wired r t e) =
      let hop : Hop = record { out = source; into = target.port } in
      let arrived : List NodePort = cond (is_switch_at f target.port.node) (target.port ∷ []) [] in (
        hop ∷ [],
        (
          arrived_at target.port,
          (adapter_sends f lid source node at (sym (type_at f source.node node at) ∙ s) other, e, refl),
          adapter_takes f lid (arrived_at target.port) target.named.node target.named.node_there
              (sym (type_at f target.port.node target.named.node target.named.node_there) ∙ t) target.own_lid,
        ),
        routed_past_switches rule f source (hop ∷ [])
            (ap (λ x. map (guid_at f) (cond x (source ∷ arrived) arrived)) s ∙ ap (λ x. map (guid_at f) (cond x (target.port ∷ []) [])) t)
            (ap (λ x. cond x (hop ∷ []) []) (and_left (is_switch_at f source.node) (is_switch_at f target.port.node) s))
            (omega arith),
      )
  from_adapter source is_end s other (apart h k a b from to e) = over_switches source is_end (λ r. other) from to e

  -- an adapter port has the LID itself
  to_itself : (source : NodePort) → IsEndPort f source → IsJoinedTo f origin source → is_switch_at f source.node ≡ false → owns f source lid ≡ true
      → Delivery source
  to_itself source (node, at, number) j s own =
      let is_target = lid_is_owners told planned target source node (record { node_there = at; end_port = (node, at, number); in_part = j }) own in (
        [],
        (sent_from source, refl, adapter_takes f lid (sent_from source) node at (sym (type_at f source.node node at) ∙ s) own ∙ ap Delivers is_target),
        routed_past_switches rule f source [] (ap (λ t. map (guid_at f) (cond t (source ∷ []) [])) s) refl (omega arith),
      )

  delivery : (source : NodePort) → IsEndPort f origin → IsEndPort f source → IsJoinedTo f origin source → Delivery source
  delivery source is_origin is_end j =
      let meets = joined_meet told is_origin source target.port j target.joined in
      elim (is_switch_at f source.node) as (λ t. is_switch_at f source.node ≡ t → Delivery source) [
        | true ↦ λ s. from_switch source is_end j s meets
        | false ↦ λ s. (elim (owns f source lid) as (λ t. owns f source lid ≡ t → Delivery source) [
          | true ↦ λ e. to_itself source is_end j s e
          | false ↦ λ e. from_adapter source is_end s e meets
        ] refl)
      ] refl

-- the LID has its owner in the plan that is held
plan_there : (rule : Routing) (lmc : ℕ) (facts : Facts) → ¬ (IsNoRoom lmc (cells_of facts)) → (f : Fabric) (origin : NodePort)
    → HoldsPlan (IsJoinedTo f origin) (plan_by rule lmc (cells_of facts)) f → (lid : ℕ) (owner : EndPort) → owner_of (lids lmc (cells_of facts)) lid
    ≡ Some owner
    → IsPlanned rule lmc (cells_of facts) f origin lid owner
plan_there rule lmc facts has_room f origin holds lid owner owned =
    record {
      are_lids = lids_law lmc facts has_room;
      inverse = owners_are_inverse lmc facts has_room;
      end_ports_listed = (end_ports_law facts).0;
      blocks = planned_block rule lmc facts;
      held = holds;
      owned = owned;
    }

-- where the plan by a rule of routing is in force, every packet for an end port that is there arrives
pub packets_arrive_where_covered : PacketsArriveWhereCovered
packets_arrive_where_covered lmc facts rule routing has_room f origin is_origin in_force source is_end j lid owner owned there =
    let cells = cells_of facts in
    let told : IsTold cells f origin =
    record { is_fabric = in_force.is_fabric; covers = in_force.covers; is_graph = graph_law facts; listed = usable_switch facts } in
    let planned : IsPlanned rule lmc cells f origin lid owner = plan_there rule lmc facts has_room f origin in_force.holds lid owner owned in
    let target = owner_port told planned there in
    let d = delivery routing told planned target source is_origin is_end j in
    record { target = target.port; is_owner = target.named; in_part = target.joined; hops = d.0; delivered = d.1; way = d.2 }

-- and where the facts tell of no others, every packet
pub packets_arrive_by_each_routing : PacketsArriveByEachRouting
packets_arrive_by_each_routing lmc facts rule routing has_room f origin is_origin in_force source is_end j lid owner owned =
    let within : IsInForceWithin (IsJoinedTo f origin) (cells_of facts) (plan_by rule lmc (cells_of facts)) f =
    record { is_fabric = in_force.is_fabric; covers = covers in_force.agrees; holds = in_force.holds } in
    let told : IsTold (cells_of facts) f origin =
    record { is_fabric = within.is_fabric; covers = within.covers; is_graph = graph_law facts; listed = usable_switch facts } in
    packets_arrive_where_covered lmc facts rule routing has_room f origin is_origin within source is_end j lid owner owned
    (owner_there told (plan_there rule lmc facts has_room f origin in_force.holds lid owner owned) in_force.agrees)

-- so it does by each rule that can be asked for
pub every_packet_arrives : (rule : RuleValue) (lmc : ℕ) (facts : Facts) → ¬ (IsNoRoom lmc (cells_of facts))
    → EveryPacketArrives rule (cells_of facts) (plan_of rule lmc (cells_of facts))
every_packet_arrives rule lmc facts has_room =
    all_arrive_by_rule (lid_numbers lmc (cells_of facts) (lids lmc (cells_of facts))) (routing_by rule (cells_of facts)) (cells_of facts)
    (plan_of rule lmc (cells_of facts))
    (packets_arrive_by_each_routing lmc facts (lid_routing rule lmc (cells_of facts) (lids lmc (cells_of facts))) (lids_are_routed rule lmc facts) has_room)
