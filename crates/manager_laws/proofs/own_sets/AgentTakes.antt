-- Sets that an agent takes, whatever was written to it: a block within its table, a top within it, and LIDs and an LMC that the
-- port may have.
use Rattle.std.proofs.Common.{◌≡◌, ℕ, ◌*◌, ◌<◌, ◌≤◌, Bool, true, false, List, sym, ap, ◌∙◌, subst}
use Rattle.std.proofs.lemmas.Bool.{and_from, le-leb, lt-ltb}
use Rattle.std.specs.Prelude.{Option, Some, None, Result, Ok, option_map, option_and_then, if◌then◌else◌, ◌&&◌}
use Rattle.std.specs.Option.{ok_or}
use Rattle.smp_bytes.specs.Header.{set, done, switch_info, port_info, linear_forwarding_table, multicast_forwarding_table}
use Rattle.smp_bytes.specs.Field.{bits_in, number_in, bytes_in, with_bytes}
use Rattle.smp_bytes.specs.Packet.{method, attribute_id, attribute_modifier, attribute_data, status}
use Rattle.attr_codec.specs.PortInfo.{port_state, state_of_number}
use Rattle.attr_codec.specs.SwitchInfo.{linear_fdb_top}
use Rattle.node_agents.specs.declared.port.Port.{Port}
use Rattle.node_agents.specs.Agent.{Agent, IsAgent, is_switch, port_at, with_port}
use Rattle.node_agents.specs.SwitchInfo.{set_switch_info}
use Rattle.node_agents.specs.PortInfo.{are_lids_taken, changed_port, has_lid, max_lmc, port_after, port_meant, port_with, set_port_info, state_after}
use Rattle.node_agents.specs.MftBlock.{has_masks, position_in, set_masks}
use Rattle.node_agents.specs.LftBlock.{has_block, set_block}
use Rattle.node_agents.specs.Answers.{Met, after_answer, after_request, met_set, set_attribute, set_of, status_told}
use Rattle.node_agents.specs.AnswerLaws.{IsPacket}
use Rattle.node_agents.proofs.Outcomes.{answers_hold}
use Rattle.node_agents.proofs.Told.{met-set, something_told}

-- which Set it is ---------------------------------------------------------------------------------

got : {E : Type 0} (m : Option Agent) (other : E) (b : Agent) → m ≡ Some b → ok_or m other ≡ Ok b
got m other b taken = ap (λ x. ok_or x other) taken

got_at_switch : {E : Type 0} (s : Bool) (m : Option Agent) (other : E) (rest : Result Agent E) (b : Agent) → s ≡ true → m ≡ Some b
    → (if s && true then ok_or m other else rest) ≡ Ok b
got_at_switch true m other rest b switch taken = got m other b taken
got_at_switch false m other rest b switch taken = absurd (cc)

got_past : {E : Type 0} (s : Bool) (x rest : Result Agent E) (b : Agent) → rest ≡ Ok b → (if s && false then x else rest) ≡ Ok b
got_past true x rest b taken = taken
got_past false x rest b taken = taken

module _ (a b : Agent) (packet : List ℕ) (arrival : ℕ) where
  abbrev sets_of : ℕ → Type 0
  sets_of n = set_attribute a n (number_in attribute_modifier packet) arrival (bytes_in attribute_data packet) ≡ Ok b

  set_port : number_in attribute_id packet ≡ port_info
      → set_port_info a (number_in attribute_modifier packet) arrival (bytes_in attribute_data packet) ≡ Some b
      → set_of a packet arrival ≡ Ok b
  unfolding set_of
  set_port e taken = subst sets_of (sym e) (got _ _ b taken)

  set_top : is_switch a ≡ true → number_in attribute_id packet ≡ switch_info → set_switch_info a (bytes_in attribute_data packet) ≡ Some b
      → set_of a packet arrival ≡ Ok b
  unfolding set_of
  set_top switch e taken = subst sets_of (sym e) (got_at_switch (is_switch a) _ _ _ b switch taken)

  set_one_block : is_switch a ≡ true → number_in attribute_id packet ≡ linear_forwarding_table
      → set_block a (number_in attribute_modifier packet) (bytes_in attribute_data packet) ≡ Some b → set_of a packet arrival ≡ Ok b
  unfolding set_of
  set_one_block switch e taken =
      subst sets_of (sym e) (got_past (is_switch a) _ _ b (got_at_switch (is_switch a) _ _ _ b switch taken))

  set_the_masks : is_switch a ≡ true → number_in attribute_id packet ≡ multicast_forwarding_table
      → set_masks a (number_in attribute_modifier packet) (bytes_in attribute_data packet) ≡ Some b → set_of a packet arrival ≡ Ok b
  unfolding set_of
  set_the_masks switch e taken =
      subst sets_of (sym e)
      (got_past (is_switch a) _ _ b (got_past (is_switch a) _ _ b (got_at_switch (is_switch a) _ _ _ b switch taken)))

-- what is taken -----------------------------------------------------------------------------------

-- a port that may have these LIDs takes them, and keeps its state
port_takes : (port : Port) (has : Bool) (most : ℕ) (payload : List ℕ) → are_lids_taken most payload ≡ true → bits_in port_state payload ≡ 0
    → port_after port has most payload ≡ Some (port_with port has payload port.state)
port_takes port has most payload fits still =
    ap (λ b. if b then option_map (port_with port has payload)
    (option_and_then (state_after port.state) (state_of_number (bits_in port_state payload))) else None) fits
    ∙ ap (λ n. option_map (port_with port has payload) (option_and_then (state_after port.state) (state_of_number n))) still

changes : (a : Agent) (modifier arrival : ℕ) (payload : List ℕ) (port : ℕ) (after : Port) → port_meant a modifier arrival ≡ Some port
    → port_after (port_at a port) (has_lid a port) (max_lmc a port) payload ≡ Some after → changed_port a modifier arrival payload ≡ Some (port, after)
unfolding changed_port
changes a modifier arrival payload port after meant e =
    ap (option_and_then (λ p. option_map (λ x. (p, x)) (port_after (port_at a p) (has_lid a p) (max_lmc a p) payload))) meant
    ∙ ap (option_map (λ x. (port, x))) e

module _ (a : Agent) (packet : List ℕ) (arrival : ℕ) (is : IsAgent a) (whole : IsPacket packet) (sets : number_in method packet ≡ set) where
  takes : (b : Agent) → set_of a packet arrival ≡ Ok b → status (after_answer a packet arrival).packet ≡ done
  takes b e =
      let holds = answers_hold a packet arrival is whole in
      let something = something_told a b packet arrival e in
      let m : after_request a packet arrival ≡ met_set a (Ok b) packet arrival =
      met-set a packet arrival sets ∙ ap (λ r. met_set a r packet arrival) e in
      holds.status ∙ ap (λ (x : Met). status_told x.told) m ∙ ap status_told something.1

  pub takes_block : number_in attribute_id packet ≡ linear_forwarding_table → is_switch a ≡ true → number_in attribute_modifier packet ≤ 767
      → 64 * number_in attribute_modifier packet < a.node.cap → status (after_answer a packet arrival).packet ≡ done
  takes_block e switch few within =
      let n = number_in attribute_modifier packet in
      let b = record a { table = with_bytes (64 * n) (bytes_in attribute_data packet) a.table } in
      let has : has_block a n ≡ true = and_from _ _ (le-leb n 767 few) (lt-ltb (64 * n) a.node.cap within) in
      takes b (set_one_block a b packet arrival switch e (ap (λ t. if t then Some b else None) has))

  pub takes_masks : number_in attribute_id packet ≡ multicast_forwarding_table → is_switch a ≡ true
      → has_masks a (number_in attribute_modifier packet) ≡ true → status (after_answer a packet arrival).packet ≡ done
  takes_masks e switch has =
      let n = position_in (number_in attribute_modifier packet) in
      let b = record a { masks = with_bytes (64 * n) (bytes_in attribute_data packet) a.masks } in
      takes b (set_the_masks a b packet arrival switch e (ap (λ t. if t then Some b else None) has))

  pub takes_top : number_in attribute_id packet ≡ switch_info → is_switch a ≡ true
      → number_in linear_fdb_top (bytes_in attribute_data packet) < a.node.cap → status (after_answer a packet arrival).packet ≡ done
  takes_top e switch within =
      let top = number_in linear_fdb_top (bytes_in attribute_data packet) in
      let b = record a { top = top } in
      takes b (set_top a b packet arrival switch e (ap (λ t. if t then Some b else None) (lt-ltb top a.node.cap within)))

  pub takes_lids : number_in attribute_id packet ≡ port_info → (port : ℕ) → port_meant a (number_in attribute_modifier packet) arrival ≡ Some port
      → are_lids_taken (max_lmc a port) (bytes_in attribute_data packet) ≡ true → bits_in port_state (bytes_in attribute_data packet) ≡ 0
      → status (after_answer a packet arrival).packet ≡ done
  takes_lids e port meant fits still =
      let payload = bytes_in attribute_data packet in
      let after = port_with (port_at a port) (has_lid a port) payload (port_at a port).state in
      let b = with_port a port after in
      takes b (set_port a b packet arrival e
      (ap (option_map (λ changed. with_port a changed.0 changed.1))
      (changes a (number_in attribute_modifier packet) arrival payload port after meant
      (port_takes (port_at a port) (has_lid a port) (max_lmc a port) payload fits still))))
