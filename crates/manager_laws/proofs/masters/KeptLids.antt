-- An agent keeps its ports' LIDs, where each Set that it takes carries the LIDs that they have.
use Rattle.std.proofs.Common.{◌≡◌, ◌⊎◌, inl, inr, ℕ, zero, suc, ◌≤◌, Bool, true, false, cond, List, [], ◌∷◌, refl, sym, ap, ◌∙◌, subst}
use Rattle.std.proofs.lemmas.Bool.{eqb-true, eqb-false}
use Rattle.std.proofs.lemmas.Option.{same_Some}
use Rattle.std.specs.Prelude.{Option, Some, None, option_map, option_and_then, slice_index_or, slice_set, ◌==◌}
use Rattle.smp_bytes.specs.Header.{set, done, port_info}
use Rattle.smp_bytes.specs.Field.{bits_in, bytes_in, number_in}
use Rattle.smp_bytes.specs.Packet.{attribute_data, attribute_id, attribute_modifier, method, status}
use Rattle.attr_codec.specs.PortInfo.{base_lid, port_state, state_of_number}
use Rattle.attr_codec.specs.declared.port_state.PortState.{PortState}
use Rattle.attr_codec.specs.declared.port_state.PortState.TheVariants.{Down}
use Rattle.node_agents.specs.declared.port.Port.{Port}
use Rattle.node_agents.specs.Agent.{Agent, IsAgent, base_lid_at, port_at, port_in, range_at}
use Rattle.node_agents.specs.AnswerLaws.{IsPacket, IsTaken}
use Rattle.node_agents.specs.Answers.{after_answer}
use Rattle.node_agents.specs.PortInfo.{are_lids_taken, has_lid, max_lmc, port_after, port_meant, port_with, state_after}
use Rattle.node_agents.proofs.Outcomes.{SetsSome, what_is_set}
use Rattle.node_agents.proofs.Sets.{blocks_are_set, masks_are_set, tops_are_set}
use Rattle.node_agents.proofs.Told.{port_taken, refusals_change_nothing, taken_to}
use Rattle.lid_assign.specs.Lids.{range_of}
use Rattle.lft_blocks.specs.Plan.{PlanValue}
use Rattle.manager_laws.specs.Sets.{Carries}
use Rattle.manager_laws.proofs.AgentSets.{unset}

-- each port has the LID that it had
abbrev pub KeepsLids : Agent → Agent → Type 0
KeepsLids a b = (m : ℕ) → base_lid_at b m ≡ base_lid_at a m

-- where one port is another one with its LID
lids_with : (ports : List Port) (port m : ℕ) (new none : Port) → new.base_lid ≡ (slice_index_or ports port none).base_lid
    → (slice_index_or (slice_set ports port new) m none).base_lid ≡ (slice_index_or ports m none).base_lid
lids_with [] port m new none e = refl
lids_with (x ∷ ports) zero zero new none e = e
lids_with (x ∷ ports) zero (suc m) new none e = refl
lids_with (x ∷ ports) (suc port) zero new none e = refl
lids_with (x ∷ ports) (suc port) (suc m) new none e = lids_with ports port m new none e

-- a port keeps its LID, where the payload has this one or the port has none
lid_after : (port new : Port) (has : Bool) (most : ℕ) (payload : List ℕ) → port_after port has most payload ≡ Some new
    → (has ≡ true → number_in base_lid payload ≡ port.base_lid) → new.base_lid ≡ port.base_lid
lid_after port new has most payload e same = by_test (are_lids_taken most payload) e
  where
    by_has : (b : Bool) → (b ≡ true → number_in base_lid payload ≡ port.base_lid) → cond b (number_in base_lid payload) port.base_lid ≡ port.base_lid
    by_has true h = h refl
    by_has false h = refl

    by_state : (o : Option PortState) → option_map (port_with port has payload) o ≡ Some new → new.base_lid ≡ port.base_lid
    by_state None h = absurd (cc)
    by_state (Some state) h = ap (λ (p : Port). p.base_lid) (sym (same_Some (port_with port has payload state) new h)) ∙ by_has has same

    by_test : (b : Bool) → cond b (option_map (port_with port has payload)
        (option_and_then (state_after port.state) (state_of_number (bits_in port_state payload)))) None ≡ Some new
        → new.base_lid ≡ port.base_lid
    by_test true h = by_state (option_and_then (state_after port.state) (state_of_number (bits_in port_state payload))) h
    by_test false h = absurd (cc)

module _ (plan : PlanValue) (a : Agent) (packet : List ℕ) (arrival : ℕ) (is : IsAgent a) (whole : IsPacket packet) (at_most : arrival ≤ a.node.ports)
    (carries_it : number_in method packet ≡ set → status (after_answer a packet arrival).packet ≡ done → Carries plan a arrival packet)
    (has_them : number_in method packet ≡ set → number_in attribute_id packet ≡ port_info → (port : ℕ) → has_lid a port ≡ true
    → port_meant a (number_in attribute_modifier packet) arrival ≡ Some port
    → range_of plan.given (record { node = a.node.guid; port = port }) ≡ Some (range_at a port)) where
  module _ (sets : number_in method packet ≡ set) (taken : status (after_answer a packet arrival).packet ≡ done) where
    is_taken : (number : ℕ) → number_in attribute_id packet ≡ number → IsTaken a packet arrival number
    is_taken number e = record { agent = is; whole = whole; method = sets; attribute = e; done = taken }

    to_agent : (b : Agent) → (after_answer a packet arrival).agent ≡ b
        → SetsSome a b packet arrival → KeepsLids a (after_answer a packet arrival).agent
    to_agent b after (inl s) m =
        let (port, new, t) = port_taken a b (number_in attribute_modifier packet) arrival (bytes_in attribute_data packet) s.taken in
        ap (λ (x : Agent). base_lid_at x m) (after ∙ sym t.agent)
        ∙ lids_with a.ports port m new (port_in Down)
        (lid_after (port_at a port) new (has_lid a port) (max_lmc a port) (bytes_in attribute_data packet) t.after
        (λ has. ap (λ (r : ℕ × ℕ). r.0) ((carries_it sets taken).lids s.attribute port (range_at a port) t.meant (has_them sets s.attribute port has t.meant))))
    to_agent b after (inr (inl s)) m = ap (λ (x : Agent). base_lid_at x m) (tops_are_set a packet arrival (is_taken _ s.1.attribute)).all_else
    to_agent b after (inr (inr (inl s))) m = ap (λ (x : Agent). base_lid_at x m) (blocks_are_set a packet arrival (is_taken _ s.1.attribute)).all_else
    to_agent b after (inr (inr (inr s))) m = ap (λ (x : Agent). base_lid_at x m) (masks_are_set a packet arrival (is_taken _ s.1.attribute)).all_else

    taken_keeps : KeepsLids a (after_answer a packet arrival).agent
    taken_keeps =
        let t = taken_to a packet arrival (number_in attribute_id packet) (is_taken (number_in attribute_id packet) refl) in
        to_agent t.0 t.2.agent (what_is_set a t.0 packet arrival t.2.taken)

  -- whatever it is asked
  pub answered_keeps_lids : KeepsLids a (after_answer a packet arrival).agent
  answered_keeps_lids = by_method (number_in method packet == set) refl
    where
      by_status : number_in method packet ≡ set → (b : Bool) → (status (after_answer a packet arrival).packet == done) ≡ b
          → KeepsLids a (after_answer a packet arrival).agent
      by_status sets true e = taken_keeps sets (eqb-true _ _ e)
      by_status sets false e = subst (KeepsLids a) (sym (refusals_change_nothing a packet arrival is whole (eqb-false _ _ e))) (λ m. refl)

      by_method : (b : Bool) → (number_in method packet == set) ≡ b → KeepsLids a (after_answer a packet arrival).agent
      by_method true e = by_status (eqb-true _ _ e) (status (after_answer a packet arrival).packet == done) refl
      by_method false e = subst (KeepsLids a) (sym (unset a packet arrival is whole at_most e)) (λ m. refl)
