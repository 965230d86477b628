-- While no LID changes, a sweep is told the LIDs that the ports have.
use Rattle.std.proofs.Common.{◌≡◌, ℕ, zero, suc, ◌<◌, ◌≤◌, ◌^◌, true, cond, List, [], ◌∷◌, replicate, refl, sym, ap, ◌∙◌, subst, arith}
use Rattle.std.proofs.lemmas.Bool.{cond_both}
use Rattle.std.proofs.lemmas.Option.{same_Some}
use Rattle.std.proofs.lemmas.List.Elements.{All-head, All-tail}
use Rattle.std.specs.Prelude.{Option, Some, None, Result, Ok, Err, All, slice_get, ◌==◌}
use Rattle.std.specs.List.{AllByRecursion}
use Rattle.smp_bytes.specs.declared.node_type.NodeType.{NodeType}
use Rattle.fabric_model.specs.declared.cable.NodePort.{NodePort}
use Rattle.fabric_model.specs.Cables.{is_same_port}
use Rattle.fabric_model.specs.Fabric.{Fabric, IsNodeAt}
use Rattle.smp_bytes.specs.Field.{number_in, bytes_in}
use Rattle.smp_bytes.specs.Header.{get, node_info, port_info, switch_info}
use Rattle.smp_bytes.specs.Packet.{attribute_id, attribute_modifier, attribute_data}
use Rattle.fabric_model.specs.DirectedWalk.{directed_end}
use Rattle.fabric_model.proofs.Cabled.{same_port-is}
use Rattle.attr_codec.specs.declared.node_info.NodeInfo.{NodeInfo}
use Rattle.attr_codec.specs.PortInfo.{base_lid}
use Rattle.reply_facts.specs.declared.report.Context.{Context}
use Rattle.reply_facts.specs.declared.report.Context.TheVariants.{Start, Via, About}
use Rattle.reply_facts.specs.Report.{sightings_of_link, sightings_of_kind, sightings_by_node_info, sightings_by_port_info, sightings_by_switch_info, node_info_of}
use Rattle.attr_codec.specs.NodeTypeNumber.{type_of_number}
use Rattle.fabric_sim.specs.Simulation.{Simulation, AreCables, port_count, fabric_of}
use Rattle.fabric_sim.specs.ToldOfEnd.{port_asked}
use Rattle.fabric_sim.specs.ThereAndBack.{directed_packet}
use Rattle.fabric_sim.proofs.Courses as courses
use Rattle.fabric_sim.proofs.Courses.{AnySends}
use Rattle.fabric_sim.proofs.Traced.{IsOnCourse, IsForManager}
use Rattle.fabric_sim.proofs.TripsOut.{IsPortOf}
use Rattle.sweep.specs.declared.answer.Answer.{Answer}
use Rattle.sweep.specs.declared.fault.SweepFault.{SweepFault}
use Rattle.sweep.specs.declared.question.Question.{Question}
use Rattle.sweep.specs.declared.question.Question.TheVariants as ask
use Rattle.sweep.specs.declared.request.Request.{Request}
use Rattle.sweep.specs.Sweep.{Sweep, attribute_asked, modifier_asked, transaction_of, packet_of, after_next_request, after_next_request_of}
use Rattle.sweep.specs.Replies.{answer_by, judged, sightings_by}
use Rattle.manager_laws.specs.Scene.{Handed}
use Rattle.manager_laws.specs.Sweeping.{Sweeping, SweepEvent, Around, Ask, Send, Hear, TimeOut, CanBe, asking_more, sending, with_answer, hearing, after_sweep_event, after_sweep_events}
use Rattle.manager_laws.proofs.Accepted.{IsFor, path_is}
use Rattle.manager_laws.proofs.Answers.{was_there}
use Rattle.manager_laws.proofs.Sound.{CanBeSwept, Asks, AreSound, IsSoundSweep}
use Rattle.manager_laws.proofs.Swept as swept
use Rattle.manager_laws.proofs.Swept.{Goes, goes_on}
use Rattle.manager_laws.proofs.TracedScenes as traced
use Rattle.manager_laws.proofs.TrueFacts.{IsCabled}
use Rattle.manager_laws.proofs.Lists.{all_append}
use Rattle.manager_laws.proofs.Sweeps.{told_in, told_more}
use Rattle.manager_laws.specs.Claims.{LidsStay, IsTrueClaim}
use Rattle.manager_laws.proofs.takeover.LidScenes.{LidSo, SameLids, LidsKnown, sends_known, event_known}
use Rattle.manager_laws.proofs.Returned.{same_attribute, same_modifier, same_data, same_status, comes_from, is_answer}

-- other facts say nothing of LIDs ------------------------------------------------------------------

module _ (f : Fabric) (generation : ℕ) where
  no_claim_of_link : (context : Context) (info : NodeInfo) → AllByRecursion (IsTrueClaim f) (sightings_of_link generation context info)
  no_claim_of_link Start info = tt
  no_claim_of_link (Via guid port) info = (tt, (tt, tt))
  no_claim_of_link (About guid) info = tt

  no_claim_of_kind : (context : Context) (info : NodeInfo) (m : Option NodeType) → AllByRecursion (IsTrueClaim f) (sightings_of_kind generation context info m)
  no_claim_of_kind context info None = tt
  no_claim_of_kind context info (Some kind) = (tt, (tt, no_claim_of_link context info))

  no_claim_of_switch : (context : Context) (packet : List ℕ) → AllByRecursion (IsTrueClaim f) (sightings_by_switch_info generation context packet)
  no_claim_of_switch Start packet = tt
  no_claim_of_switch (Via guid port) packet = tt
  no_claim_of_switch (About guid) packet = (tt, tt)

module _ {start : Simulation} {seat : NodePort} (cables : AreCables start) (counts : (id : ℕ) → port_count start id ≤ 254)
    (can : CanBeSwept (fabric_of start) seat) (cabled : IsCabled (fabric_of start)) (within : IsPortOf start seat) where
  -- a reply ---------------------------------------------------------------------------------------

  module _ (s : Sweep) (sound : IsSoundSweep (fabric_of start) seat s) (bytes : List ℕ) (is : courses.IsForManager start seat bytes)
      (lids : IsForManager AnySends (LidSo start) start seat bytes) (answer : Answer) (taken : judged s bytes ≡ Ok answer) where
    by_question : (request : Request) → IsFor bytes request → directed_end (fabric_of start) seat request.path
        ≡ Some (is_answer AnySends (LidSo start) start seat bytes lids
        (swept.accepted_as cables counts can cabled s sound bytes is answer taken).good.directed
        (swept.accepted_as cables counts can cabled s sound bytes is answer taken).good.returning).is.end
        → (q : Question) → request.question ≡ q → (context : Context) → Asks (fabric_of start) seat request.path q context
        → AllByRecursion (IsTrueClaim (fabric_of start)) (sightings_by (answer_by q (record { generation = s.generation; context = context; bytes = bytes })))
    by_question request for leads ask.Node e context asks =
        let attribute : number_in attribute_id bytes ≡ node_info = for.attribute ∙ ap attribute_asked e in
        subst (AllByRecursion (IsTrueClaim (fabric_of start))) (sym (ap (λ n. cond (n == node_info) (sightings_by_node_info s.generation context bytes)
        (cond (n == port_info) (sightings_by_port_info s.generation context bytes) (sightings_by_switch_info s.generation context bytes))) attribute))
        (no_claim_of_kind (fabric_of start) s.generation context (node_info_of bytes) (type_of_number (node_info_of bytes).node_type))
    by_question request for leads ask.Switch e context asks =
        let attribute : number_in attribute_id bytes ≡ switch_info = for.attribute ∙ ap attribute_asked e in
        subst (AllByRecursion (IsTrueClaim (fabric_of start))) (sym (ap (λ n. cond (n == node_info) (sightings_by_node_info s.generation context bytes)
        (cond (n == port_info) (sightings_by_port_info s.generation context bytes) (sightings_by_switch_info s.generation context bytes))) attribute))
        (no_claim_of_switch (fabric_of start) s.generation context bytes)
    by_question request for leads (ask.Manager guid port) e context asks = tt
    by_question request for leads (ask.Port port) e Start asks = absurd asks
    by_question request for leads (ask.Port port) e (Via guid via) asks = absurd asks
    by_question request for leads (ask.Port port) e (About guid) asks =
        let f = fabric_of start in
        let good = (swept.accepted_as cables counts can cabled s sound bytes is answer taken).good in
        let back = is_answer AnySends (LidSo start) start seat bytes lids good.directed good.returning in
        let attribute : number_in attribute_id bytes ≡ port_info = for.attribute ∙ ap attribute_asked e in
        let modifier : number_in attribute_modifier bytes ≡ port = for.modifier ∙ ap modifier_asked e in
        let ends : asks.to.end ≡ back.is.end = same_Some _ _ (sym asks.to.leads ∙ leads) in
        let here : IsNodeAt f back.is.end.node asks.to.node = subst (λ (p : NodePort). IsNodeAt f p.node asks.to.node) ends asks.to.has.there in
        let said = back.is.tells (sym (same_status AnySends (LidSo start) start seat bytes back) ∙ good.done_is)
        (sym (same_attribute AnySends (LidSo start) start seat bytes back) ∙ attribute) asks.to.node here in
        let means : port_asked asks.to.node (number_in attribute_modifier back.answer) back.is.end.port ≡ number_in attribute_modifier bytes =
        (λ j. port_asked asks.to.node ((sym (same_modifier AnySends (LidSo start) start seat bytes back)
        ∙ modifier) j) (sym (ap (λ (p : NodePort). p.port) ends) j))
        ∙ asks.means ∙ sym modifier in
        let lid : f.base_lid (record { node = asks.to.end.node; port = number_in attribute_modifier bytes })
        ≡ number_in base_lid (bytes_in attribute_data bytes) =
        (λ j. f.base_lid (record { node = (ap (λ (p : NodePort). p.node) ends) j; port = sym means j })) ∙ sym said
        ∙ sym (ap (number_in base_lid) (same_data AnySends (LidSo start) start seat bytes back)) in
        subst (AllByRecursion (IsTrueClaim (fabric_of start))) (sym (ap (λ n. cond (n == node_info) (sightings_by_node_info s.generation (About guid) bytes)
        (cond (n == port_info) (sightings_by_port_info s.generation (About guid) bytes) (sightings_by_switch_info s.generation (About guid) bytes))) attribute))
        (tt, ((asks.to.end.node, asks.to.node, asks.to.has, lid), tt))

    pub reply_claims : AllByRecursion (IsTrueClaim (fabric_of start)) (sightings_by answer)
    reply_claims =
        let a = swept.accepted_as cables counts can cabled s sound bytes is answer taken in
        let found = swept.found cables counts can cabled s sound bytes is answer taken in
        let for = swept.for cables counts can cabled s sound bytes is answer taken in
        let back = is_answer AnySends (LidSo start) start seat bytes lids a.good.directed a.good.returning in
        let leads = ap (directed_end (fabric_of start) seat) (sym (path_is bytes a.request for is.whole.count found.sound.sound.short))
        ∙ comes_from AnySends (LidSo start) start seat bytes back in
        subst (λ x. AllByRecursion (IsTrueClaim (fabric_of start)) (sightings_by x)) (sym a.answer_is)
        (by_question a.request for leads a.request.question refl a.request.context found.sound.sound.asks)

  -- a run -----------------------------------------------------------------------------------------

  pub record ClaimsKnown (w : Sweeping) : Type 0 where
    pub scene : LidsKnown start w.scene
    pub asked : AllByRecursion (IsOnCourse AnySends (LidSo start) start seat) w.asked
    pub claims : AllByRecursion (IsTrueClaim (fabric_of start)) (told_in w.reports)

  request_on : (generation : ℕ) (request : Request) → generation < 2 ^ 32 → AreSound (fabric_of start) seat (request ∷ [])
      → IsOnCourse AnySends (LidSo start) start seat (packet_of generation request)
  request_on generation request few sound =
      traced.sent_traced AnySends (LidSo start) start seat get (attribute_asked request.question) (modifier_asked request.question)
      (transaction_of generation request.number) request.path (replicate 64 0) (swept.fits cables counts can cabled generation request few sound.0)
      (omega arith) sound.0.sound.short sound.0.sound.own within tt

  asking_known : (w : Sweeping) → Goes cables counts can cabled w → ClaimsKnown w → ClaimsKnown (asking_more w (after_next_request w.sweep))
  asking_known w g k = by_queue w.sweep.queued refl
    where
      by_queue : (queue : List Request) → w.sweep.queued ≡ queue → ClaimsKnown (asking_more w (after_next_request_of w.sweep queue))
      by_queue [] e = record { scene = k.scene; asked = k.asked; claims = k.claims }
      by_queue (request ∷ queue) e =
          let all : AreSound (fabric_of start) seat (request ∷ queue) = subst (AreSound (fabric_of start) seat) e g.sound.queued in
          record {
            scene = k.scene;
            asked = all_append (IsOnCourse AnySends (LidSo start) start seat) w.asked (packet_of w.sweep.generation request ∷ []) k.asked
                (request_on w.sweep.generation request g.sound.generation.1 (all.0, tt), tt);
            claims = k.claims;
          }

  asked_there : (asked : List (List ℕ)) (which : ℕ) (packet : List ℕ) → AllByRecursion (IsOnCourse AnySends (LidSo start) start seat) asked
      → slice_get asked which ≡ Some packet → IsOnCourse AnySends (LidSo start) start seat packet
  asked_there [] which packet all e = absurd (cc)
  asked_there (x ∷ asked) zero packet all e = let same : x ≡ packet = cc in subst (IsOnCourse AnySends (LidSo start) start seat) same all.0
  asked_there (x ∷ asked) (suc which) packet all e = asked_there asked which packet all.1 e

  sending_known : (w : Sweeping) (m : Option (List ℕ)) → Goes cables counts can cabled w → ClaimsKnown w
      → ((packet : List ℕ) → m ≡ Some packet → IsOnCourse AnySends (LidSo start) start seat packet) → ClaimsKnown (sending w m)
  sending_known w None g k were = k
  sending_known w (Some packet) g k were =
      record {
        scene = sends_known cables counts w.scene w.seat (directed_packet packet) g.scene k.scene
            (λ _. subst (λ p. IsOnCourse AnySends (LidSo start) start p packet) (sym g.seat_is) (were packet refl));
        asked = k.asked;
        claims = k.claims;
      }

  hearing_known : (w : Sweeping) (m : Option Handed) → Goes cables counts can cabled w → ClaimsKnown w
      → ((h : Handed) → m ≡ Some h → courses.IsForManager start h.at h.packet.bytes)
      → ((h : Handed) → m ≡ Some h → IsForManager AnySends (LidSo start) start h.at h.packet.bytes) → ClaimsKnown (hearing w m)
  hearing_known w None g k were lids = k
  hearing_known w (Some h) g k were lids =
      cond_both (is_same_port h.at w.seat) _ _ ClaimsKnown
      (λ same. judged_known (at_seat same (courses.IsForManager start) (λ p. were h refl))
      (at_seat same (λ p b. IsForManager AnySends (LidSo start) start p b) (λ p. lids h refl)) (judged w.sweep h.packet.bytes) refl) (λ _. k)
    where
      at_seat : is_same_port h.at w.seat ≡ true → (P : NodePort → List ℕ → Type 0) → (ℕ → P h.at h.packet.bytes) → P seat h.packet.bytes
      at_seat same P is = subst (λ p. P p h.packet.bytes) (same_port-is h.at w.seat same ∙ g.seat_is) (is 0)

      judged_known : courses.IsForManager start seat h.packet.bytes → IsForManager AnySends (LidSo start) start seat h.packet.bytes
          → (result : Result Answer SweepFault) → judged w.sweep h.packet.bytes ≡ result → ClaimsKnown (with_answer w h.packet.bytes result)
      judged_known is lid (Ok answer) e =
          record {
            scene = k.scene;
            asked = k.asked;
            claims = subst (AllByRecursion (IsTrueClaim (fabric_of start))) (sym (told_more w.reports answer))
                (all_append (IsTrueClaim (fabric_of start)) (told_in w.reports) (sightings_by answer) k.claims
                (reply_claims w.sweep g.sound h.packet.bytes is lid answer e));
          }
      judged_known is lid (Err why) e = k

  known_next : (w : Sweeping) (event : SweepEvent) → Goes cables counts can cabled w → CanBe event → SameLids start (after_sweep_event w event).scene.fabric
      → ClaimsKnown w → ClaimsKnown (after_sweep_event w event)
  known_next w (Around event) g can_be lids k =
      record { scene = event_known cables counts w.scene event g.scene k.scene can_be lids; asked = k.asked; claims = k.claims }
  known_next w Ask g can_be lids k = asking_known w g k
  known_next w (Send which) g can_be lids k = sending_known w (slice_get w.asked which) g k (λ packet e. asked_there w.asked which packet k.asked e)
  known_next w (Hear which) g can_be lids k =
      hearing_known w (slice_get w.scene.handed which) g k (λ h e. was_there start w.scene.handed which h g.scene.handed e)
      (λ h e. traced.traced_there AnySends (LidSo start) start w.scene.handed which h k.scene.handed e)
  known_next w (TimeOut transaction) g can_be lids k = record { scene = k.scene; asked = k.asked; claims = k.claims }

  pub all_known : (events : List SweepEvent) (w : Sweeping) → Goes cables counts can cabled w → All CanBe events → LidsStay (fabric_of start) events w
      → ClaimsKnown w → ClaimsKnown (after_sweep_events events w)
  all_known [] w g all lids k = k
  all_known (event ∷ events) w g all lids k =
      all_known events (after_sweep_event w event) (goes_on cables counts can cabled w event g (All-head CanBe event events all))
      (All-tail CanBe event events all) lids.1 (known_next w event g (All-head CanBe event events all) lids.0 k)
