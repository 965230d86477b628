-- What an answer of PortInfo tells is the LID that the agent holds then.
use Rattle.std.proofs.Common.{◌≡◌, inl, inr, ℕ, ◌^◌, ◌<◌, Bool, true, false, cond, List, refl, sym, ap, ◌∙◌, arith, replicate}
use Rattle.std.proofs.lemmas.Bool.{cond_both}
use Rattle.std.proofs.lemmas.Option.{same_Some}
use Rattle.std.specs.Prelude.{Option, Some, None, Ok, Err, nat_le, option_map, ◌==◌, ◌||◌}
use Rattle.std.specs.Option.{ok_or}
use Rattle.smp_bytes.specs.NodeType as types
use Rattle.smp_bytes.specs.Header.{get, set, done, port_info}
use Rattle.smp_bytes.specs.Field.{number_in, bytes_in}
use Rattle.smp_bytes.specs.Packet.{method, attribute_id, attribute_modifier, attribute_data, status}
use Rattle.smp_bytes.proofs.FieldLaws.{number_in-alike, number_in-with_number_apart, number_in-with_numbers}
use Rattle.attr_codec.specs.Image.{image}
use Rattle.attr_codec.specs.PortInfo.{base_lid}
use Rattle.node_agents.specs.declared.port.Port.{Port}
use Rattle.node_agents.specs.Agent.{Agent, IsAgent, is_switch, node_of, port_at, base_lid_at}
use Rattle.node_agents.specs.PortInfo.{port_meant, port_info_of}
use Rattle.node_agents.specs.Answers.{Met, get_of, set_of, met_set, after_request, payload_told, after_answer}
use Rattle.node_agents.specs.AnswerLaws.{IsPacket}
use Rattle.node_agents.proofs.Lengths.{port_entries, port_marked, port_ranged, length-port_image, length-port_marked, length-port_ranged}
use Rattle.node_agents.proofs.Outcomes.{answers_hold, get_of-port_info}
use Rattle.node_agents.proofs.Says.{is_told}
use Rattle.node_agents.proofs.Shapes.{Keeps, keeps_same, keeps-set_of, is_port_at}
use Rattle.node_agents.proofs.Told.{answered-agent}
use Rattle.fabric_sim.specs.ToldOfEnd.{port_asked}

-- a port's information has its LID
lid_written : (port : Port) (arrival : ℕ) → port.base_lid < 2 ^ 16 → number_in base_lid (port_info_of port arrival) ≡ port.base_lid
lid_written port arrival small =
    let long = length-port_image port arrival in
    let marked = length-port_marked port arrival in
    let ranged = length-port_ranged port arrival in
    number_in-with_number_apart base_lid (record { at = 32; len = 1 }) _ (port_ranged port arrival) (omega arith) refl
    ∙ number_in-with_number_apart base_lid (record { at = 34; len = 1 }) _ (port_marked port arrival) (omega arith) refl
    ∙ number_in-with_number_apart base_lid (record { at = 23; len = 1 }) _ (image (port_entries port arrival)) (omega arith) refl
    ∙ number_in-with_numbers 64 (port_entries port arrival) (replicate 64 0) 0 (record { field = base_lid; number = port.base_lid }) refl refl refl small

-- the port that is meant is the one that is asked
meant_by : (at_switch inside asked : Bool) (modifier arrival port : ℕ)
    → cond at_switch (cond inside (Some modifier) None) (cond asked (Some arrival) None) ≡ Some port → port ≡ cond at_switch modifier arrival
meant_by true true asked modifier arrival port h = sym (same_Some modifier port h)
meant_by true false asked modifier arrival port h = cc
meant_by false inside true modifier arrival port h = sym (same_Some arrival port h)
meant_by false inside false modifier arrival port h = cc

module _ (a : Agent) (packet : List ℕ) (arrival : ℕ) where
  -- what is told with status 0 is what a Get would tell then
  record IsNow (payload : List ℕ) (m : Met) : Type 0 where
    pub keeps : Keeps a m.agent
    pub told : get_of m.agent packet arrival ≡ Ok payload

  abbrev TellsNow : List ℕ → Met → Type 0
  TellsNow payload m = m.told ≡ Ok payload → IsNow payload m

  set_now : (payload : List ℕ) (r : _) → set_of a packet arrival ≡ r → TellsNow payload (met_set a r packet arrival)
  set_now payload (Ok b) e h = record { keeps = keeps-set_of a b packet arrival e; told = h }
  set_now payload (Err refusal) e h = cc

  now : (payload : List ℕ) → TellsNow payload (after_request a packet arrival)
  now payload =
      cond_both (number_in method packet == get) _ _ (TellsNow payload) (λ _ h. record { keeps = keeps_same a; told = h })
      (λ _. cond_both (number_in method packet == set) _ _ (TellsNow payload) (λ _. set_now payload (set_of a packet arrival) refl)
      (λ _ h. absurd (cc)))

  module _ (is : IsAgent a) (whole : IsPacket packet) (status_is : status (after_answer a packet arrival).packet ≡ done)
      (attribute_is : number_in attribute_id (after_answer a packet arrival).packet ≡ port_info) where
    by_meant : {R : Type 0} (why : R) (b : Agent) (modifier : ℕ) (payload : List ℕ) → IsAgent b → (m : Option ℕ) → m ≡ port_meant b modifier arrival
        → ok_or (option_map (λ port. port_info_of (port_at b port) arrival) m) why ≡ Ok payload
        → number_in base_lid payload ≡ base_lid_at b (port_asked (node_of b) modifier arrival)
    by_meant why b modifier payload is_b None e h = cc
    by_meant why b modifier payload is_b (Some port) e h =
        let payload_is : port_info_of (port_at b port) arrival ≡ payload = cc in
        let low = (is_port_at b is_b port).base_lid in
        let port_is : port ≡ port_asked (node_of b) modifier arrival =
        meant_by (is_switch b) (nat_le modifier b.node.ports) (modifier == 0 || modifier == arrival) modifier arrival port (sym e) in
        ap (number_in base_lid) (sym payload_is) ∙ lid_written (port_at b port) arrival (omega (arith, low)) ∙ ap (base_lid_at b) port_is

    pub lid_told : number_in base_lid (bytes_in attribute_data (after_answer a packet arrival).packet)
        ≡ base_lid_at (after_answer a packet arrival).agent (port_asked (node_of a) (number_in attribute_modifier (after_answer a packet arrival).packet)
        arrival)
    lid_told =
        let told = (after_request a packet arrival).told in
        let holds = answers_hold a packet arrival is whole in
        let (payload, told_is) = is_told told (sym holds.status ∙ status_is) in
        let then = now payload told_is in
        let b = (after_request a packet arrival).agent in
        let payload_is = holds.attribute_data ∙ ap (λ t. payload_told t packet) told_is in
        let attribute = number_in-alike attribute_id (after_answer a packet arrival).packet packet
        (λ id from less. holds.kept id (inr (inl (omega (arith, from), omega (arith, less))))) in
        let modifier = number_in-alike attribute_modifier (after_answer a packet arrival).packet packet
        (λ id from less. holds.kept id (inr (inl (omega (arith, from), omega (arith, less))))) in
        ap (number_in base_lid) payload_is
        ∙ by_meant _ b (number_in attribute_modifier packet) payload (then.keeps.is_agent is) (port_meant b (number_in attribute_modifier packet) arrival) refl
        (sym (get_of-port_info b packet arrival (sym attribute ∙ attribute_is)) ∙ then.told)
        ∙ (λ j. base_lid_at (sym (answered-agent a packet arrival) j) (cond (types.is_switch ((then.keeps.shape.node j)).kind) (sym modifier j) arrival))
