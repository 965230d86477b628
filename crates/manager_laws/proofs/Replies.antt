-- What a sweep has covered stays so when it takes any reply that tells the truth.
use Rattle.std.proofs.Common.{◌≡◌, inr, ℕ, Bool, true, cond, List, [], ◌∷◌, ◌++◌, refl, sym, ap, ◌∙◌, subst}
use Rattle.std.proofs.lemmas.Bool.{and_from, le-leb}
use Rattle.std.proofs.lemmas.Option.{same_Some}
use Rattle.std.specs.Prelude.{Some, find, nat_le, ◌==◌}
use Rattle.fabric_model.specs.declared.cable.NodePort.{NodePort}
use Rattle.smp_bytes.specs.Header.{node_info, port_info, switch_info}
use Rattle.smp_bytes.specs.Field.{number_in, bits_in}
use Rattle.smp_bytes.specs.Packet.{attribute_id, attribute_modifier}
use Rattle.fabric_model.specs.Fabric.{Fabric, IsNodeAt}
use Rattle.fabric_model.specs.DirectedWalk.{directed_end}
use Rattle.fabric_model.proofs.FabricWalks.{port_at}
use Rattle.attr_codec.specs.NodeTypeNumber.{type_of_number}
use Rattle.attr_codec.specs.PortInfo.{base_lid, port_state}
use Rattle.attr_codec.specs.SwitchInfo.{linear_fdb_cap}
use Rattle.fact_join.specs.declared.cell.Cell.TheVariants.{Known}
use Rattle.reply_facts.specs.declared.key.Key.TheVariants.{Port, Claim}
use Rattle.reply_facts.specs.declared.value.Value.TheVariants.{Up, Lid}
use Rattle.reply_facts.specs.declared.report.Context.{Context}
use Rattle.reply_facts.specs.declared.report.Context.TheVariants.{About}
use Rattle.reply_facts.specs.Report.{Sightings, is_up_state, node_info_of, payload_of, sightings_by_node_info, sightings_by_port_info}
use Rattle.reply_facts.specs.Report.{sightings_by_switch_info, sightings_by_packet, sightings_of_kind}
use Rattle.fabric_sim.specs.ToldOfEnd.{SaysOf, SaysPort, port_asked}
use Rattle.sweep.specs.declared.question.Question.{Question}
use Rattle.sweep.specs.declared.question.Question.TheVariants as ask
use Rattle.sweep.specs.declared.request.Request.{Request}
use Rattle.sweep.specs.Sweep.{Sweep, attribute_asked, modifier_asked, first_vertex}
use Rattle.sweep.specs.Finding.{finding_of, with_finding}
use Rattle.sweep.specs.Replies.{answer_by, sightings_by}
use Rattle.manager_laws.proofs.Accepted.{IsFor, IsGoodNode, type_read}
use Rattle.manager_laws.proofs.Sound.{CanBeSwept, IsSound, IsSoundSweep, LeadsTo}
use Rattle.manager_laws.proofs.TrueFacts.{IsCabled}
use Rattle.manager_laws.proofs.Covered.{Covered}
use Rattle.manager_laws.proofs.NodeReplies.{node_covered}
use Rattle.manager_laws.proofs.PortReplies.{manager_covered, switch_covered, port_covers}
use Rattle.manager_laws.proofs.Taken.{ended}

module _ {f : Fabric} {seat : NodePort} (can : CanBeSwept f seat) (s : Sweep) (told : Sightings) (c : Covered f seat s told) (sound : IsSoundSweep f seat s)
    (r : Request) (t : Request → Bool) (found : find t s.outstanding ≡ Some r) (cabled : IsCabled f) (packet : List ℕ) (end : NodePort)
    (leads : directed_end f seat r.path ≡ Some end) (says : SaysOf f end packet) (for : IsFor packet r)
    (good : number_in attribute_id packet ≡ node_info → IsGoodNode r.context packet) where
  told_is : (context : Context) (n : ℕ) → number_in attribute_id packet ≡ n
      → sightings_by_packet s.generation context packet
      ≡ cond (n == node_info) (sightings_by_node_info s.generation context packet)
      (cond (n == port_info) (sightings_by_port_info s.generation context packet) (sightings_by_switch_info s.generation context packet))
  told_is context n e =
      ap (λ k. cond (k == node_info) (sightings_by_node_info s.generation context packet)
      (cond (k == port_info) (sightings_by_port_info s.generation context packet) (sightings_by_switch_info s.generation context packet))) e

  -- the port that was asked for is up where it is said to be
  port_up : (guid port : ℕ) → r.question ≡ ask.Port port → (to : LeadsTo f seat r.path guid) → port_asked to.node port to.end.port ≡ port
      → (far : NodePort) → f.across (port_at to.end.node port) ≡ Some far → is_up_state (bits_in port_state (payload_of packet)) ≡ true
  port_up guid port e to means far cable =
      let attribute : number_in attribute_id packet ≡ port_info = for.attribute ∙ ap attribute_asked e in
      let modifier : number_in attribute_modifier packet ≡ port = for.modifier ∙ ap modifier_asked e in
      let ends : to.end ≡ end = same_Some _ _ (sym to.leads ∙ leads) in
      let here : IsNodeAt f end.node to.node = subst (λ (p : NodePort). IsNodeAt f p.node to.node) ends to.has.there in
      let node_is : to.node ≡ says.node = same_Some _ _ (sym here ∙ says.there) in
      let meant : port_asked says.node (number_in attribute_modifier packet) end.port ≡ port =
      (λ j. port_asked (sym node_is j) (modifier j) (sym (ap (λ (p : NodePort). p.port) ends) j)) ∙ means in
      let about : SaysPort f end.node says.node port (bits_in port_state (payload_of packet)) =
      subst (λ n. SaysPort f end.node says.node n (bits_in port_state (payload_of packet))) meant (says.port_info attribute) in
      let over : f.across (port_at end.node port) ≡ Some far = ap (λ (p : NodePort). f.across (port_at p.node port)) (sym ends) ∙ cable in
      let up = about.up.1 (inr (far, over)) in
      let state = bits_in port_state (payload_of packet) in
      and_from (nat_le 2 state) (nat_le state 4) (le-leb 2 state up.0) (le-leb state 4 up.1)

  pub by_question : (q : Question) → r.question ≡ q → (context : Context) → r.context ≡ context → IsSound f seat q r.path context
      → (with_finding (ended can s told c sound r t found) r.path (finding_of s (record r { context = context }) packet q)).too_far ≡ 0
      → Covered f seat (with_finding (ended can s told c sound r t found) r.path (finding_of s (record r { context = context }) packet q))
      (told ++ sightings_by (answer_by q (record { generation = s.generation; context = context; bytes = packet })))
  by_question ask.Node e context is asks near =
      let attribute : number_in attribute_id packet ≡ node_info = for.attribute ∙ ap attribute_asked e in
      let node = says.node_info attribute in
      let type_is : type_of_number (node_info_of packet).node_type ≡ Some says.node.kind = ap type_of_number node.kind ∙ type_read says.node.kind in
      let same : sightings_by_packet s.generation context packet ≡ sightings_of_kind s.generation context (node_info_of packet) (Some says.node.kind) =
      told_is context node_info attribute ∙ ap (sightings_of_kind s.generation context (node_info_of packet)) type_is in
      subst (λ more. Covered f seat (with_finding (ended can s told c sound r t found) r.path
      (finding_of s (record r { context = context }) packet ask.Node)) (told ++ more)) (sym same)
      (node_covered can s told c sound r t found s.generation cabled end says.node leads says.there
      (node_info_of packet) node says.node.kind refl e context is asks.asks
      (first_vertex s.reached (node_info_of packet).node_guid) refl type_is)
  by_question ask.Switch e (About guid) is asks near =
      let attribute : number_in attribute_id packet ≡ switch_info = for.attribute ∙ ap attribute_asked e in
      subst (λ more. Covered f seat (with_finding (ended can s told c sound r t found) r.path
      (finding_of s (record r { context = About guid }) packet ask.Switch)) (told ++ more))
      (sym (told_is (About guid) switch_info attribute))
      (switch_covered can s told c sound r t found s.generation guid e is (number_in linear_fdb_cap (payload_of packet)) _ _)
  by_question (ask.Port port) e (About guid) is asks near =
      let attribute : number_in attribute_id packet ≡ port_info = for.attribute ∙ ap attribute_asked e in
      let modifier : number_in attribute_modifier packet ≡ port = for.modifier ∙ ap modifier_asked e in
      subst (λ more. Covered f seat (with_finding (ended can s told c sound r t found) r.path
      (finding_of s (record r { context = About guid }) packet (ask.Port port))) (told ++ more))
      (sym (told_is (About guid) port_info attribute
      ∙ (λ j. (Port guid (modifier j), Known s.generation (Up (is_up_state (bits_in port_state (payload_of packet)))))
      ∷ (Claim guid (modifier j), Known s.generation (Lid (number_in base_lid (payload_of packet)))) ∷ [])))
      (port_covers can s told c sound r t found s.generation guid port e is asks.asks.to (bits_in port_state (payload_of packet))
      (number_in base_lid (payload_of packet)) (port_up guid port e asks.asks.to asks.asks.means) (payload_of packet) refl near)
  by_question (ask.Manager guid port) e context is asks near = manager_covered can s told c sound r t found s.generation guid port e _ _
  by_question question e context is asks near = absurd asks.asks
