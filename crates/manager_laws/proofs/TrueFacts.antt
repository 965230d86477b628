-- The facts of a report are true, where its reply tells the truth about the end of the request's path.
use Rattle.std.proofs.Common.{◌≡◌, inl, inr, ℕ, zero, ◌≤◌, Bool, true, false, cond, List, [], ◌∷◌, refl, sym, ap, ◌∙◌, subst, arith}
use Rattle.std.proofs.lemmas.Bool.{and_parts, and_from, or_cases, ltb-true, leb-true, le-leb}
use Rattle.std.proofs.lemmas.List.Elements.{All-nil, All-cons}
use Rattle.std.proofs.lemmas.Option.{same_Some}
use Rattle.std.specs.Prelude.{◌↔◌, Option, Some, None, All, IsTrue, MatchBool, nat_le, nat_lt, ◌==◌, ◌&&◌}
use Rattle.fabric_model.specs.declared.cable.NodePort.{NodePort}
use Rattle.smp_bytes.specs.declared.node_type.NodeType.{NodeType}
use Rattle.smp_bytes.specs.Header.{node_info, port_info, switch_info}
use Rattle.smp_bytes.specs.Field.{number_in, bits_in}
use Rattle.smp_bytes.specs.Packet.{attribute_id, attribute_modifier}
use Rattle.smp_bytes.specs.NodeType.{is_switch}
use Rattle.fabric_model.specs.Fabric as fabric
use Rattle.fabric_model.specs.Fabric.{Fabric, IsEndPortNumber, IsNodeAt}
use Rattle.fabric_model.specs.DirectedWalk.{directed_end}
use Rattle.attr_codec.specs.NodeTypeNumber.{type_of_number}
use Rattle.attr_codec.specs.PortInfo.{port_state}
use Rattle.reply_facts.specs.declared.report.Context.{Context}
use Rattle.reply_facts.specs.declared.report.Context.TheVariants.{Start, Via, About}
use Rattle.reply_facts.specs.Report.{Sightings, guid_port, may_be_asked_by, are_ports_in_range, node_info_of, payload_of, is_up_state, sightings_of_link, sightings_of_kind, sightings_by_node_info, sightings_by_port_info, sightings_by_switch_info}
use Rattle.reply_facts.specs.Sighting.{is_cabled_port}
use Rattle.fabric_sim.specs.ToldOfEnd.{SaysNode, SaysPort, SaysOf, IsUpState, port_asked}
use Rattle.manager_laws.proofs.Ends.{end_before}
use Rattle.sweep.specs.declared.question.Question.{Question}
use Rattle.sweep.specs.declared.question.Question.TheVariants as ask
use Rattle.sweep.specs.declared.request.Request.{Request}
use Rattle.sweep.specs.Replies.{answer_by, sightings_by}
use Rattle.sweep.specs.Sweep.{attribute_asked, modifier_asked}
use Rattle.manager_laws.specs.Truth.{HasNode, IsTrueSighting}
use Rattle.manager_laws.proofs.Accepted.{IsGoodNode, IsFor, type_read}
use Rattle.manager_laws.proofs.Sound.{LeadsTo, GoesBy, Asks}

-- cables lead back, and a switch has one port GUID
pub record IsCabled (f : Fabric) : Type 0 where
  pub back : (p q : NodePort) → f.across p ≡ Some q → f.across q ≡ Some p
  pub one_guid : (id : ℕ) (node : fabric.Node) → IsNodeAt f id node → is_switch node.kind ≡ true → (port : ℕ) → node.port_guid port ≡ node.port_guid 0

abbrev pub AreTrue : Fabric → Sightings → Type 0
AreTrue f [] = Unit {0}
AreTrue f (s ∷ told) = IsTrueSighting f s × AreTrue f told

pub all_true : (f : Fabric) (told : Sightings) → AreTrue f told → All (IsTrueSighting f) told
all_true f [] all = All-nil (IsTrueSighting f)
all_true f (s ∷ told) all = All-cons (IsTrueSighting f) s told all.0 (all_true f told all.1)

up_test : (n : ℕ) → IsTrue (is_up_state n) ↔ IsUpState n
up_test n = (
  λ e. let parts = and_parts (nat_le 2 n) (nat_le n 4) e in (leb-true 2 n parts.0, leb-true n 4 parts.1),
  λ up. and_from (nat_le 2 n) (nat_le n 4) (le-leb 2 n up.0) (le-leb n 4 up.1),
)

module _ (f : Fabric) (seat : NodePort) (cabled : IsCabled f) (generation : ℕ) (r : Request) (packet : List ℕ) (end : NodePort)
    (leads : directed_end f seat r.path ≡ Some end) (says : SaysOf f end packet) where
  -- node information -----------------------------------------------------------------------------

  module _ (context : Context) (node : SaysNode says.node end.port (node_info_of packet)) (kind : NodeType) (kind_is : kind ≡ says.node.kind)
      (ranges : are_ports_in_range context kind (node_info_of packet) ≡ true) where
    has : HasNode f (node_info_of packet).node_guid end.node says.node
    has = record { there = says.there; named = sym node.guid }

    local_within : end.port ≤ says.node.ports
    local_within =
        let parts = and_parts (is_cabled_port (node_info_of packet).num_ports && nat_le (node_info_of packet).local_port_num (node_info_of packet).num_ports)
        (may_be_asked_by context kind (node_info_of packet).local_port_num) ranges in
        let most : (node_info_of packet).local_port_num ≤ (node_info_of packet).num_ports =
        leb-true _ _ (and_parts (is_cabled_port (node_info_of packet).num_ports) _ parts.0).1 in
        let local = node.local_port in
        let ports = node.ports in
        omega (arith, most, local, ports)

    asked : may_be_asked_by context kind (node_info_of packet).local_port_num ≡ true
    asked = (and_parts (is_cabled_port (node_info_of packet).num_ports && nat_le (node_info_of packet).local_port_num (node_info_of packet).num_ports)
        (may_be_asked_by context kind (node_info_of packet).local_port_num) ranges).1

    -- an adapter's port is from 1 on
    some_port : (c : Context) → may_be_asked_by c kind (node_info_of packet).local_port_num ≡ true → is_switch kind ≡ false → 1
        ≤ (node_info_of packet).local_port_num
    some_port Start e adapter = elim (or_cases (is_switch kind) _ e) [ inl s ↦ absurd (cc (sym s ∙ adapter)) | inr some ↦ ltb-true _ _ some ]
    some_port (Via guid via) e adapter = ltb-true _ _ (and_parts (nat_lt 0 (node_info_of packet).local_port_num) (is_cabled_port via) e).0
    some_port (About guid) e adapter = ltb-true _ _ e

    port_of_guid : IsEndPortNumber says.node (guid_port kind (node_info_of packet).local_port_num)
        × (says.node.port_guid (guid_port kind (node_info_of packet).local_port_num) ≡ (node_info_of packet).port_guid)
    port_of_guid = by_kind (is_switch kind) refl
      where
        by_kind : (b : Bool) → is_switch kind ≡ b
            → MatchBool (is_switch says.node.kind) (cond b 0 (node_info_of packet).local_port_num ≡ 0)
            ((1 ≤ cond b 0 (node_info_of packet).local_port_num) × (cond b 0 (node_info_of packet).local_port_num ≤ says.node.ports))
            × (says.node.port_guid (cond b 0 (node_info_of packet).local_port_num) ≡ (node_info_of packet).port_guid)
        by_kind true e =
            let switch : is_switch says.node.kind ≡ true = ap is_switch (sym kind_is) ∙ e in (
              subst (λ b. MatchBool b (zero ≡ zero) ((1 ≤ zero) × (zero ≤ says.node.ports))) (sym switch) refl,
              sym (cabled.one_guid end.node says.node says.there switch end.port) ∙ sym node.port_guid,
            )
        by_kind false e =
            let adapter : is_switch says.node.kind ≡ false = ap is_switch (sym kind_is) ∙ e in
            let local = node.local_port in
            let within = local_within in (
              subst (λ b. MatchBool b ((node_info_of packet).local_port_num ≡ 0) ((1 ≤ (node_info_of packet).local_port_num)
                  × ((node_info_of packet).local_port_num ≤ says.node.ports)))
                  (sym adapter) (some_port context asked e, omega (arith, local, within)),
              ap says.node.port_guid node.local_port ∙ sym node.port_guid,
            )

    -- the link, from both ends
    true_links : Asks f seat r.path ask.Node context → (c : Context) → context ≡ c → AreTrue f (sightings_of_link generation c (node_info_of packet))
    true_links asks Start e = tt
    true_links asks (About guid) e = tt
    true_links asks (Via peer port) e =
        let by : GoesBy f seat r.path peer port = subst (Asks f seat r.path ask.Node) e asks in
        let cable : f.across (record { node = by.to.end.node; port = port }) ≡ Some end =
        end_before f seat by.front port by.to.end end by.to.leads (ap (directed_end f seat) (sym by.is) ∙ leads) in
        let here : end ≡ record { node = end.node; port = (node_info_of packet).local_port_num } =
        λ j. record { node = end.node; port = sym node.local_port j } in (
          (
            end.node,
            says.node,
            has,
            record {
              far = record { node = by.to.end.node; port = port };
              other = by.to.node;
              cable = ap f.across (sym here) ∙ cabled.back _ _ cable;
              node = by.to.has;
              port_is = refl;
            },
          ),
          (
            (
              by.to.end.node,
              by.to.node,
              by.to.has,
              record {
                far = end;
                other = says.node;
                cable = cable;
                node = has;
                port_is = sym node.local_port;
              },
            ),
            tt,
          ),
        )

    true_node : Asks f seat r.path ask.Node context → (m : Option NodeType) → m ≡ Some kind
        → AreTrue f (sightings_of_kind generation context (node_info_of packet) m)
    true_node asks None e = cc
    true_node asks (Some k) e =
        let same : k ≡ kind = same_Some k kind e in
        subst (λ x. AreTrue f (sightings_of_kind generation context (node_info_of packet) (Some x))) (sym same) (
          (end.node, says.node, has, sym kind_is, sym node.ports),
          ((end.node, says.node, has, port_of_guid.0, port_of_guid.1), true_links asks context refl),
        )

  -- any reply -------------------------------------------------------------------------------------------

  module _ (for : IsFor packet r) (node_good : number_in attribute_id packet ≡ node_info → IsGoodNode r.context packet) where
    same_node : (guid : ℕ) (to : LeadsTo f seat r.path guid) → (to.end ≡ end) × HasNode f guid end.node says.node
    same_node guid to =
        let ends : to.end ≡ end = same_Some _ _ (sym to.leads ∙ leads) in
        let here : IsNodeAt f end.node to.node = subst (λ (p : NodePort). IsNodeAt f p.node to.node) ends to.has.there in
        let same : to.node ≡ says.node = same_Some _ _ (sym here ∙ says.there) in
        (ends, record { there = says.there; named = ap (λ (n : fabric.Node). n.guid) (sym same) ∙ to.has.named })

    pub by_question : (q : Question) → r.question ≡ q → (context : Context) → r.context ≡ context → Asks f seat r.path q context
        → AreTrue f (sightings_by (answer_by q (record { generation = generation; context = context; bytes = packet })))
    by_question ask.Node e context c asks =
        let attribute : number_in attribute_id packet ≡ node_info = for.attribute ∙ ap attribute_asked e in
        let node = says.node_info attribute in
        let good : IsGoodNode context packet = subst (λ x. IsGoodNode x packet) c (node_good attribute) in
        let type_is : type_of_number (node_info_of packet).node_type ≡ Some says.node.kind = ap type_of_number node.kind ∙ type_read says.node.kind in
        let kind_is : good.kind ≡ says.node.kind = same_Some _ _ (sym good.type_is ∙ type_is) in
        subst (AreTrue f) (sym (ap (λ n. cond (n == node_info) (sightings_by_node_info generation context packet)
        (cond (n == port_info) (sightings_by_port_info generation context packet) (sightings_by_switch_info generation context packet))) attribute))
        (true_node context node good.kind kind_is good.ranges asks (type_of_number (node_info_of packet).node_type) good.type_is)
    by_question ask.Switch e (About guid) c asks =
        let attribute : number_in attribute_id packet ≡ switch_info = for.attribute ∙ ap attribute_asked e in
        let said = says.switch_info attribute in
        let (ends, has) = same_node guid asks in
        subst (AreTrue f) (sym (ap (λ n. cond (n == node_info) (sightings_by_node_info generation (About guid) packet)
        (cond (n == port_info) (sightings_by_port_info generation (About guid) packet) (sightings_by_switch_info generation (About guid) packet))) attribute))
        ((end.node, says.node, has, said.kind, sym said.cap), tt)
    by_question (ask.Port port) e (About guid) c asks =
        let attribute : number_in attribute_id packet ≡ port_info = for.attribute ∙ ap attribute_asked e in
        let modifier : number_in attribute_modifier packet ≡ port = for.modifier ∙ ap modifier_asked e in
        let said = says.port_info attribute in
        let (ends, has) = same_node guid asks.to in
        let here : IsNodeAt f end.node asks.to.node = subst (λ (p : NodePort). IsNodeAt f p.node asks.to.node) ends asks.to.has.there in
        let node_is : asks.to.node ≡ says.node = same_Some _ _ (sym here ∙ says.there) in
        let meant : port_asked says.node (number_in attribute_modifier packet) end.port ≡ port =
        (λ j. port_asked (sym node_is j) (modifier j) (sym (ap (λ (p : NodePort). p.port) ends) j)) ∙ asks.means in
        let about : SaysPort f end.node says.node (number_in attribute_modifier packet) (bits_in port_state (payload_of packet)) =
        subst (λ n. SaysPort f end.node says.node n (bits_in port_state (payload_of packet))) (meant ∙ sym modifier) said in
        let test = up_test (bits_in port_state (payload_of packet)) in
        subst (AreTrue f) (sym (ap (λ n. cond (n == node_info) (sightings_by_node_info generation (About guid) packet)
        (cond (n == port_info) (sightings_by_port_info generation (About guid) packet) (sightings_by_switch_info generation (About guid) packet))) attribute))
        ((end.node, says.node, has, about.within, (λ e. about.up.0 (test.0 e), λ up. test.1 (about.up.1 up))), (tt, tt))
    by_question (ask.Manager guid port) e context c asks = tt
    by_question question e context c asks = absurd asks
