-- What an agent's answer says of its node is true.
use Rattle.std.proofs.Common.{◌≡◌, inl, inr, ℕ, ◌+◌, ◌^◌, ◌<◌, ◌≤◌, Bool, true, false, cond, List, refl, sym, ap, ◌∙◌, subst, arith}
use Rattle.std.specs.Prelude.{◌↔◌, Option, Some, None, Result, Ok, Err, nat_le, option_map, ◌==◌, ◌&&◌, ◌||◌, replicate}
use Rattle.std.specs.Option.{ok_or}
use Rattle.smp_bytes.specs.declared.node_type.NodeType.{NodeType}
use Rattle.smp_bytes.specs.declared.node_type.NodeType.TheVariants.{ChannelAdapter, Switch, Router}
use Rattle.smp_bytes.specs.NodeType as types
use Rattle.smp_bytes.specs.Header.{get, set, done, node_info, switch_info, port_info}
use Rattle.smp_bytes.specs.Field.{number_in, bits_in, bytes_in}
use Rattle.smp_bytes.specs.Packet.{method, attribute_id, attribute_modifier, attribute_data}
use Rattle.smp_bytes.proofs.FieldLaws.{number_in-alike, number_in-with_numbers}
use Rattle.attr_codec.specs.declared.port_state.PortState.TheVariants.{Down}
use Rattle.attr_codec.specs.NodeInfo.{node_info_in}
use Rattle.attr_codec.specs.NodeTypeNumber.{number_of_type}
use Rattle.attr_codec.specs.RoundTrip.{node_info_reads_back}
use Rattle.attr_codec.specs.PortInfo.{port_state}
use Rattle.attr_codec.specs.SwitchInfo.{linear_fdb_cap}
use Rattle.node_agents.specs.declared.agent_node.AgentNode.{AgentNode}
use Rattle.node_agents.specs.declared.refusal.Refusal.{Refusal}
use Rattle.node_agents.specs.declared.refusal.Refusal.TheVariants.{Method, MethodAndAttribute, InvalidField}
use Rattle.node_agents.specs.Agent.{Agent, IsAgent, is_switch, state_at, port_at, port_guid}
use Rattle.node_agents.specs.NodeInfo.{node_info_of, get_node_info}
use Rattle.node_agents.specs.PortInfo.{port_meant, port_info_of}
use Rattle.node_agents.specs.SwitchInfo.{get_switch_info}
use Rattle.node_agents.specs.Answers.{get_attribute, get_of, set_of, met_set, after_request, status_told, payload_told, after_answer}
use Rattle.node_agents.specs.AnswerLaws.{SaysPort, SaysSwitch, AnswersSay}
use Rattle.node_agents.proofs.Lengths.{switch_entries}
use Rattle.node_agents.proofs.Shapes.{Keeps, keeps_same, keeps-set_of, is_port_at}
use Rattle.node_agents.proofs.Outcomes.{answers_hold, get_of-port_info}
use Rattle.node_agents.proofs.Sets.{told_state}

-- what is told with status 0 is what a Get tells now -------------------------------------------

pub record ToldNow (a : Agent) (packet : List ℕ) (arrival : ℕ) (payload : List ℕ) : Type 0 where
  pub agent : Agent
  pub keeps : Keeps a agent
  pub told : get_of agent packet arrival ≡ Ok payload

module _ (a : Agent) (packet : List ℕ) (arrival : ℕ) (payload : List ℕ) where
  now_set : (after : Result Agent Refusal) → after ≡ set_of a packet arrival → (met_set a after packet arrival).told ≡ Ok payload
      → ToldNow a packet arrival payload
  now_set (Ok b) e h = record { agent = b; keeps = keeps-set_of a b packet arrival (sym e); told = h }
  now_set (Err refusal) e h = cc

  now_met : (b c : Bool)
      → (cond b (record { told = get_of a packet arrival; agent = a }) (cond c (met_set a (set_of a packet arrival) packet arrival)
      (record { told = Err Method; agent = a }))).told ≡ Ok payload → ToldNow a packet arrival payload
  now_met true c h = record { agent = a; keeps = keeps_same a; told = h }
  now_met false true h = now_set (set_of a packet arrival) refl h
  now_met false false h = cc

  pub told_now : (after_request a packet arrival).told ≡ Ok payload → ToldNow a packet arrival payload
  told_now h = now_met (number_in method packet == get) (number_in method packet == set) h

-- a status of 0 tells something
pub is_told : (told : Result (List ℕ) Refusal) → status_told told ≡ done → (payload : List ℕ) × (told ≡ Ok payload)
is_told (Ok payload) e = (payload, refl)
is_told (Err Method) e = cc
is_told (Err MethodAndAttribute) e = cc
is_told (Err InvalidField) e = cc

-- node information ----------------------------------------------------------------------------

type_small : (kind : NodeType) → number_of_type kind < 256
type_small ChannelAdapter = omega arith
type_small Switch = omega arith
type_small Router = omega arith

guid_small : (node : AgentNode) (arrival : ℕ) → node.guid < 2 ^ 64 → (types.is_switch node.kind ≡ false → node.guid + node.ports < 2 ^ 64) → arrival
    ≤ node.ports
    → port_guid node arrival < 2 ^ 64
guid_small node arrival small fits within = by_kind (types.is_switch node.kind) refl
  where
    by_kind : (b : Bool) → types.is_switch node.kind ≡ b → cond b node.guid (node.guid + arrival) < 2 ^ 64
    by_kind true e = small
    by_kind false e = let room = fits e in omega (arith, room, within)

pub node_info_said : (a : Agent) (arrival : ℕ) → IsAgent a → arrival ≤ a.node.ports
    → node_info_in (get_node_info a arrival) ≡ node_info_of a.node arrival
node_info_said a arrival is within =
    let ports = is.node.ports.1 in
    let port = guid_small a.node arrival is.node.guid is.node.port_guids within in
    let kind = type_small a.node.kind in
    node_info_reads_back (node_info_of a.node arrival) (
      omega arith,
      (
        omega arith,
        (
          omega (arith, kind),
          (
            omega (arith, ports),
            (
              omega (arith, is.node.guid),
              (
                omega (arith, is.node.guid),
                (
                  omega (arith, port),
                  (omega arith, (omega arith, (omega arith, (omega (arith, ports, within), (omega arith, tt))))),
                ),
              ),
            ),
          ),
        ),
      ),
    )

-- a port -------------------------------------------------------------------------------------

module _ (a b : Agent) (modifier arrival : ℕ) (payload : List ℕ) (is : IsAgent b) (node : b.node ≡ a.node)
    (down : (port : ℕ) → (state_at b port ≡ Down) ↔ (state_at a port ≡ Down)) where
  port_said : (m : Option ℕ) → m ≡ port_meant a modifier arrival
      → ok_or (option_map (λ port. port_info_of (port_at b port) arrival) m) InvalidField ≡ Ok payload
      → SaysPort a modifier arrival (bits_in port_state payload)
  port_said None e h = cc
  port_said (Some port) e h =
      let payload_is : port_info_of (port_at b port) arrival ≡ payload = cc in
      record {
        port = port;
        meant = sym e;
        state = state_at b port;
        number_is = ap (bits_in port_state) (sym payload_is) ∙ told_state (port_at b port) arrival;
        known = (is_port_at b is port).state;
        down = down port;
      }

-- the law -------------------------------------------------------------------------------------

switch_told : (is_it : Bool) (x y z : Result (List ℕ) Refusal) (payload : List ℕ)
    → cond (is_it && true) x (cond (is_it && false) y (cond (is_it && false) z (Err MethodAndAttribute))) ≡ Ok payload
    → (is_it ≡ true) × (x ≡ Ok payload)
switch_told true x y z payload h = (refl, h)
switch_told false x y z payload h = cc

get_of-node_info : (a : Agent) (packet : List ℕ) (arrival : ℕ) → number_in attribute_id packet ≡ node_info → get_of a packet arrival
    ≡ Ok (get_node_info a arrival)
unfolding get_of
get_of-node_info a packet arrival e = ap (λ n. get_attribute a n (number_in attribute_modifier packet) arrival) e

get_of-switch : (a : Agent) (packet : List ℕ) (arrival : ℕ) (payload : List ℕ) → number_in attribute_id packet ≡ switch_info → get_of a packet arrival
    ≡ Ok payload
    → (is_switch a ≡ true) × (◌≡◌ {A = Result (List ℕ) Refusal} (Ok (get_switch_info a)) (Ok payload))
unfolding get_of
get_of-switch a packet arrival payload e h =
    switch_told (is_switch a) (Ok (get_switch_info a)) _ _ payload (sym (ap (λ n. get_attribute a n (number_in attribute_modifier packet) arrival) e) ∙ h)

-- the port that is meant, by the node
meant_of : AgentNode → ℕ → ℕ → Option ℕ
meant_of node modifier arrival =
    cond (types.is_switch node.kind) (cond (nat_le modifier node.ports) (Some modifier) None)
    (cond (modifier == 0 || modifier == arrival) (Some arrival) None)

same_meant : (a b : Agent) (modifier arrival : ℕ) → b.node ≡ a.node → port_meant b modifier arrival ≡ port_meant a modifier arrival
unfolding meant_of
same_meant a b modifier arrival e = ap (λ n. meant_of n modifier arrival) e

cap_said : (a : Agent) → a.node.cap ≤ 49152 → number_in linear_fdb_cap (get_switch_info a) ≡ a.node.cap
cap_said a most =
    number_in-with_numbers 64 (switch_entries a) (replicate 64 0) 0 (record { field = linear_fdb_cap; number = a.node.cap }) refl refl refl
    (omega (arith, most))

module _ (a : Agent) (packet : List ℕ) (arrival : ℕ) (is : IsAgent a) (within : arrival ≤ a.node.ports)
    (payload : List ℕ) (now : ToldNow a packet arrival payload) where
  of_node : number_in attribute_id packet ≡ node_info → node_info_in payload ≡ node_info_of a.node arrival
  of_node e =
      let b = now.agent in
      let same = now.keeps.shape.node in
      let payload_is : ◌≡◌ {A = Result (List ℕ) Refusal} (Ok (get_node_info b arrival)) (Ok payload) = sym (get_of-node_info b packet arrival e) ∙ now.told in
      ap node_info_in (sym (ok_is payload_is))
      ∙ node_info_said b arrival (now.keeps.is_agent is)
      (subst (λ (n : AgentNode). arrival ≤ n.ports) (sym same) within)
      ∙ ap (λ n. node_info_of n arrival) same
    where
      ok_is : {x y : List ℕ} → ◌≡◌ {A = Result (List ℕ) Refusal} (Ok x) (Ok y) → x ≡ y
      ok_is h = cc

  of_port : number_in attribute_id packet ≡ port_info → SaysPort a (number_in attribute_modifier packet) arrival (bits_in port_state payload)
  of_port e =
      let b = now.agent in
      let modifier = number_in attribute_modifier packet in
      port_said a b modifier arrival payload (now.keeps.is_agent is) now.keeps.shape.node now.keeps.shape.down (port_meant b modifier arrival)
      (same_meant a b modifier arrival now.keeps.shape.node)
      (sym (get_of-port_info b packet arrival e) ∙ now.told)

  of_switch : number_in attribute_id packet ≡ switch_info → SaysSwitch a (number_in linear_fdb_cap payload)
  of_switch e =
      let b = now.agent in
      let same = now.keeps.shape.node in
      let (switch, payload_is) = get_of-switch b packet arrival payload e now.told in
      let most : b.node.cap ≤ 49152 = (now.keeps.is_agent is).node.cap in
      record {
        kind = ap (λ (n : AgentNode). types.is_switch n.kind) (sym same) ∙ switch;
        cap_is = ap (number_in linear_fdb_cap) (sym (ok_is payload_is)) ∙ cap_said b most ∙ ap (λ (n : AgentNode). n.cap) same;
      }
    where
      ok_is : {x y : List ℕ} → ◌≡◌ {A = Result (List ℕ) Refusal} (Ok x) (Ok y) → x ≡ y
      ok_is h = cc

pub answers_say : AnswersSay
answers_say a packet arrival is whole within status_is =
    let told = (after_request a packet arrival).told in
    let holds = answers_hold a packet arrival is whole in
    let (payload, told_is) = is_told told (sym holds.status ∙ status_is) in
    let now = told_now a packet arrival payload told_is in
    let payload_is = holds.attribute_data ∙ ap (λ t. payload_told t packet) told_is in
    let attribute = number_in-alike attribute_id (after_answer a packet arrival).packet packet
    (λ offset from less. holds.kept offset (inr (inl (omega (arith, from), omega (arith, less))))) in
    let modifier = number_in-alike attribute_modifier (after_answer a packet arrival).packet packet
    (λ offset from less. holds.kept offset (inr (inl (omega (arith, from), omega (arith, less))))) in
    record {
      node = λ e. ap node_info_in payload_is ∙ of_node a packet arrival is within payload now (sym attribute ∙ e);
      port = λ e. subst (λ m. SaysPort a m arrival (bits_in port_state (bytes_in attribute_data (after_answer a packet arrival).packet))) (sym modifier)
          (subst (λ d. SaysPort a (number_in attribute_modifier packet) arrival (bits_in port_state d)) (sym payload_is)
          (of_port a packet arrival is within payload now (sym attribute ∙ e)));
      switch = λ e. subst (λ d. SaysSwitch a (number_in linear_fdb_cap d)) (sym payload_is)
          (of_switch a packet arrival is within payload now (sym attribute ∙ e));
    }
