-- Where the paths lead by which a sweep came to its vertices.
use Rattle.std.proofs.Common.{◌≡◌, ℕ, ◌≤◌, Bool, true, false, cond, List, [], ◌∷◌, refl, sym, ap, ◌∙◌, subst, arith}
use Rattle.std.proofs.lemmas.Bool.{cond_both, and_parts, eqb-true, leb-true}
use Rattle.std.proofs.lemmas.Option.{same_Some}
use Rattle.std.specs.Prelude.{Option, Some, None, find, is_some, length, nat_le, ◌==◌, ◌&&◌, ◌||◌, option_map}
use Rattle.fabric_model.specs.declared.cable.NodePort.{NodePort}
use Rattle.smp_bytes.specs.declared.node_type.NodeType.{NodeType}
use Rattle.smp_bytes.specs.NodeType.{is_switch}
use Rattle.smp_bytes.specs.Header.{node_info}
use Rattle.smp_bytes.specs.Field.{number_in, bits_in}
use Rattle.smp_bytes.specs.Packet.{attribute_id}
use Rattle.fabric_model.specs.Fabric.{Node, Fabric, IsNodeAt}
use Rattle.fabric_model.specs.DirectedWalk.{directed_end}
use Rattle.attr_codec.specs.declared.node_info.NodeInfo.{NodeInfo}
use Rattle.attr_codec.specs.declared.port_state.PortState.{PortState}
use Rattle.attr_codec.specs.NodeTypeNumber.{type_of_number}
use Rattle.attr_codec.specs.PortInfo.{port_state, state_of_number}
use Rattle.reply_facts.specs.declared.report.Context.{Context}
use Rattle.reply_facts.specs.declared.report.Context.TheVariants.{Start, Via, About}
use Rattle.reply_facts.specs.Report.{guid_port, may_be_asked_by, node_info_of, payload_of}
use Rattle.reply_facts.specs.Sighting.{is_cabled_port}
use Rattle.fabric_sim.specs.ThereAndBack.{BeginsWith}
use Rattle.fabric_sim.specs.ToldOfEnd.{SaysNode, SaysOf}
use Rattle.sweep.specs.declared.question.Question.{Question}
use Rattle.sweep.specs.declared.question.Question.TheVariants as ask
use Rattle.sweep.specs.declared.request.Request.{Request}
use Rattle.sweep.specs.declared.vertex.Vertex.{Vertex}
use Rattle.sweep.specs.declared.vertex.SeenState.{SeenState}
use Rattle.sweep.specs.Order.{is_before, placed, has_key, found_at}
use Rattle.sweep.specs.Sweep.{Sweep, attribute_asked, first_vertex, vertex_at, path_to, seen_state, vertex_key, state_key}
use Rattle.sweep.specs.Finding.{vertex_of, found_anew, found_again, node_found_of, finding_of, with_vertex, with_state, with_state_of}
use Rattle.manager_laws.specs.Truth.{HasNode, AreGuidsDistinct}
use Rattle.manager_laws.proofs.Accepted.{IsFor, IsGoodNode, type_read}
use Rattle.manager_laws.proofs.Sound.{IsSound, IsSoundRequest}

module _ (f : Fabric) (seat : NodePort) where
  -- a vertex is where its path leads: a switch under port 0, an adapter's port under its number
  pub record IsLedTo (v : Vertex) : Type 0 where
    pub own : BeginsWith seat.port v.path
    pub short : length v.path ≤ 63
    pub end : NodePort
    pub node : Node
    pub leads : directed_end f seat v.path ≡ Some end
    pub has : HasNode f v.guid end.node node
    pub kind : v.kind ≡ node.kind
    pub port : v.port ≡ guid_port node.kind end.port
    pub small : v.port ≤ 254

  abbrev pub AreLed : List Vertex → Type 0
  AreLed [] = Unit {0}
  AreLed (v ∷ reached) = IsLedTo v × AreLed reached

  abbrev pub AreSmall : List SeenState → Type 0
  AreSmall [] = Unit {0}
  AreSmall (p ∷ states) = (p.port ≤ 254) × AreSmall states

  pub record IsLedSweep (s : Sweep) : Type 0 where
    pub reached : AreLed s.reached
    pub states : AreSmall s.states

  -- lists ----------------------------------------------------------------------------------------

  led_placed : (v : Vertex) (reached : List Vertex) → IsLedTo v → AreLed reached → AreLed (placed vertex_key v reached)
  led_placed v [] is all = (is, tt)
  led_placed v (y ∷ reached) is all =
      let later = led_placed v reached is all.1 in
      cond_both (is_before (vertex_key y) (vertex_key v)) _ _ AreLed (λ _. (all.0, later))
      (λ _. cond_both (is_before (vertex_key v) (vertex_key y)) _ _ AreLed (λ _. (is, (all.0, all.1))) (λ _. (all.0, all.1)))

  small_placed : (p : SeenState) (states : List SeenState) → p.port ≤ 254 → AreSmall states → AreSmall (placed state_key p states)
  small_placed p [] is all = (is, tt)
  small_placed p (y ∷ states) is all =
      let later = small_placed p states is all.1 in
      cond_both (is_before (state_key y) (state_key p)) _ _ AreSmall (λ _. (all.0, later))
      (λ _. cond_both (is_before (state_key p) (state_key y)) _ _ AreSmall (λ _. (is, (all.0, all.1))) (λ _. (all.0, all.1)))

  pub record FoundLed (t : Vertex → Bool) (v : Vertex) : Type 0 where
    pub led : IsLedTo v
    pub passes : t v ≡ true

  pub found_led : (t : Vertex → Bool) (reached : List Vertex) (v : Vertex) → AreLed reached → find t reached ≡ Some v → FoundLed t v
  found_led t [] v all e = absurd (cc)
  found_led t (y ∷ reached) v all e = by_test (t y) refl e (found_led t reached v all.1)
    where
      by_test : (b : Bool) → t y ≡ b → cond b (Some y) (find t reached) ≡ Some v → (find t reached ≡ Some v → FoundLed t v) → FoundLed t v
      by_test true is h later =
          let same : y ≡ v = same_Some y v h in subst (FoundLed t) same (record { led = all.0; passes = is })
      by_test false is h later = later h

  found_small : (guid port : ℕ) (states : List SeenState) (p : SeenState) → AreSmall states → find (has_key state_key guid port) states ≡ Some p → port ≤ 254
  found_small guid port [] p all e = absurd (cc)
  found_small guid port (y ∷ states) p all e = by_test (has_key state_key guid port y) refl e (found_small guid port states p all.1)
    where
      by_test : (b : Bool) → has_key state_key guid port y ≡ b → cond b (Some y) (find (has_key state_key guid port) states) ≡ Some p
          → (find (has_key state_key guid port) states ≡ Some p → port ≤ 254) → port ≤ 254
      by_test true is h later =
          let parts = and_parts (y.guid == guid) (y.port == port) is in
          let same = eqb-true _ _ parts.1 in
          let small = all.0 in
          omega (arith, same, small)
      by_test false is h later = later h

  -- what was reached -----------------------------------------------------------------------------

  -- a vertex that a path leads to
  pub record LeadsToVertex (path : List ℕ) (guid port : ℕ) : Type 0 where
    pub vertex : Vertex
    pub led : IsLedTo vertex
    pub path_is : path ≡ vertex.path
    pub guid_is : vertex.guid ≡ guid
    pub port_is : vertex.port ≡ port

  pub path_led : (s : Sweep) (guid port : ℕ) (path : List ℕ) → IsLedSweep s → path_to s guid port ≡ Some path → LeadsToVertex path guid port
  path_led s guid port path is e = by_vertex (vertex_at s.reached guid port) refl e
    where
      by_vertex : (m : Option Vertex) → vertex_at s.reached guid port ≡ m → option_map (λ r. r.path) m ≡ Some path → LeadsToVertex path guid port
      by_vertex None there h = absurd (cc)
      by_vertex (Some v) there h =
          let found = found_led (has_key vertex_key guid port) s.reached v is.reached there in
          let parts = and_parts (v.guid == guid) (v.port == port) found.passes in
          record { vertex = v; led = found.led; path_is = sym (same_Some _ _ h); guid_is = eqb-true _ _ parts.0; port_is = eqb-true _ _ parts.1 }

  pub seen_small : (s : Sweep) (guid port : ℕ) (state : PortState) → IsLedSweep s → seen_state s guid port ≡ Some state → port ≤ 254
  seen_small s guid port state is e = by_seen (found_at state_key guid port s.states) refl e
    where
      by_seen : (m : Option SeenState) → found_at state_key guid port s.states ≡ m → option_map (λ p. p.state) m ≡ Some state → port ≤ 254
      by_seen None there h = absurd (cc)
      by_seen (Some p) there h = found_small guid port s.states p is.states there

  -- what a reply says, where its path leads -------------------------------------------------------

  pub record FindsLed (reached : List Vertex) (states : List SeenState) : Type 0 where
    pub led : AreLed reached
    pub small : AreSmall states

  module _ (distinct : AreGuidsDistinct f) (s : Sweep) (is : IsLedSweep s) (r : Request) (packet : List ℕ) (end : NodePort)
      (leads : directed_end f seat r.path ≡ Some end) (says : SaysOf f end packet) (for : IsFor packet r) (sound : IsSoundRequest f seat r) where
    module _ (info : NodeInfo) (node : SaysNode says.node end.port info) (few : info.local_port_num ≤ 254) where
      has : HasNode f info.node_guid end.node says.node
      has = record { there = says.there; named = sym node.guid }

      vertex_led : (kind : NodeType) (ports : ℕ) → kind ≡ says.node.kind → FindsLed (placed vertex_key (vertex_of r.path info kind ports) s.reached) s.states
      vertex_led kind ports kind_is =
          record {
            led = led_placed (vertex_of r.path info kind ports) s.reached (record {
              own = sound.sound.own;
              short = sound.sound.short;
              end = end;
              node = says.node;
              leads = leads;
              has = has;
              kind = kind_is;
              port = λ j. guid_port (kind_is j) (node.local_port j);
              small = cond_both (is_switch kind) 0 info.local_port_num (λ n. n ≤ 254) (λ _. omega arith) (λ _. few);
            }) is.reached;
            small = is.states;
          }

      anew : (m : Option NodeType) → type_of_number info.node_type ≡ m
          → FindsLed (with_vertex (found_anew r.path info m) s.reached) (with_state (found_anew r.path info m) s.states)
      anew None e = record { led = is.reached; small = is.states }
      anew (Some kind) e =
          vertex_led kind info.num_ports (same_Some _ _ (sym e ∙ ap type_of_number node.kind ∙ type_read says.node.kind))

      again : (first : Vertex) → first_vertex s.reached info.node_guid ≡ Some first
          → FindsLed (with_vertex (found_again s r.path info first) s.reached) (with_state (found_again s r.path info first) s.states)
      again first e =
          cond_both (is_switch first.kind || is_some (vertex_at s.reached info.node_guid info.local_port_num)) _ _
          (λ o. FindsLed (with_vertex o s.reached) (with_state o s.states))
          (λ _. record { led = is.reached; small = is.states })
          (λ _. vertex_led first.kind first.ports same_kind)
        where
          found : FoundLed (λ v. v.guid == info.node_guid) first
          found = found_led (λ v. v.guid == info.node_guid) s.reached first is.reached e

          same_id : found.led.end.node ≡ end.node
          same_id = distinct _ _ found.led.node says.node found.led.has.there has.there (found.led.has.named ∙ eqb-true _ _ found.passes ∙ sym has.named)

          same_node : found.led.node ≡ says.node
          same_node = same_Some _ _ (sym (subst (λ n. IsNodeAt f n found.led.node) same_id found.led.has.there) ∙ has.there)

          same_kind : first.kind ≡ says.node.kind
          same_kind = found.led.kind ∙ ap (λ (n : Node). n.kind) same_node

      by_first : (m : Option Vertex) → first_vertex s.reached info.node_guid ≡ m
          → FindsLed (with_vertex (node_found_of s r.path info m) s.reached) (with_state (node_found_of s r.path info m) s.states)
      by_first None e = anew (type_of_number info.node_type) refl
      by_first (Some first) e = again first e

    by_state : (guid port : ℕ) (m : Option PortState) → port ≤ 254 → AreSmall (with_state_of guid port m s.states)
    by_state guid port None small = is.states
    by_state guid port (Some state) small =
        small_placed (record { guid = guid; port = port; state = state }) s.states small is.states

    few_ports : IsGoodNode r.context packet → (node_info_of packet).local_port_num ≤ 254
    few_ports good =
        let info = node_info_of packet in
        let ranges = and_parts (is_cabled_port info.num_ports && nat_le info.local_port_num info.num_ports)
        (may_be_asked_by r.context good.kind info.local_port_num) good.ranges in
        let parts = and_parts (is_cabled_port info.num_ports) (nat_le info.local_port_num info.num_ports) ranges.0 in
        let within : info.local_port_num ≤ info.num_ports = leb-true _ _ parts.1 in
        let most : info.num_ports ≤ 254 = leb-true _ _ (and_parts (nat_le 1 info.num_ports) (nat_le info.num_ports 254) parts.0).1 in
        omega (arith, within, most)

    by_question : (q : Question) → r.question ≡ q → (context : Context) → IsSound f seat q r.path context
        → (number_in attribute_id packet ≡ node_info → IsGoodNode r.context packet)
        → FindsLed (with_vertex (finding_of s (record r { context = context }) packet q) s.reached)
        (with_state (finding_of s (record r { context = context }) packet q) s.states)
    by_question ask.Node e context asks good =
        let info = node_info_of packet in
        let attribute = for.attribute ∙ ap attribute_asked e in
        by_first info (says.node_info attribute) (few_ports (good attribute)) (first_vertex s.reached info.node_guid) refl
    by_question ask.Switch e context asks good = record { led = is.reached; small = is.states }
    by_question (ask.Port port) e Start asks good = absurd asks.asks
    by_question (ask.Port port) e (Via guid via) asks good = absurd asks.asks
    by_question (ask.Port port) e (About guid) asks good =
        record { led = is.reached; small = by_state guid port (state_of_number (bits_in port_state (payload_of packet))) asks.asks.small }
    by_question (ask.Manager guid port) e context asks good = record { led = is.reached; small = is.states }

    pub finds_led : (number_in attribute_id packet ≡ node_info → IsGoodNode r.context packet)
        → FindsLed (with_vertex (finding_of s r packet r.question) s.reached) (with_state (finding_of s r packet r.question) s.states)
    finds_led = by_question r.question refl r.context sound.sound
