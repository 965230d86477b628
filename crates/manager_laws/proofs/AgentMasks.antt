-- What an agent's multicast table has at a position, from when it takes a Set of this block on.
use Rattle.std.proofs.Common.{◌≡◌, ◌≢◌, ◌⊎◌, inl, inr, ℕ, ◌+◌, ◌*◌, ◌<◌, ◌≤◌, Bool, true, false, List, refl, sym, ap, ◌∙◌, subst, arith}
use Rattle.std.proofs.lemmas.Bool.{cases_lt, eqb-false, eqb-true}
use Rattle.std.specs.Prelude.{Some, slice_get, slice_index, ◌==◌}
use Rattle.smp_bytes.specs.Header.{done, set, multicast_forwarding_table}
use Rattle.smp_bytes.specs.Field.{bytes_in, number_in}
use Rattle.smp_bytes.specs.Packet.{attribute_data, attribute_id, attribute_modifier, method, status}
use Rattle.lft_blocks.specs.Plan.{PlanValue}
use Rattle.fabric_model.specs.declared.cable.NodePort.{NodePort}
use Rattle.node_agents.specs.Agent.{Agent, IsAgent}
use Rattle.node_agents.specs.AnswerLaws.{IsPacket}
use Rattle.node_agents.specs.Answers.{after_answer}
use Rattle.node_agents.specs.MftBlock.{SetsMasks, position_in}
use Rattle.node_agents.proofs.Sets.{masks_are_set}
use Rattle.node_agents.proofs.Told.{refusals_change_nothing}
use Rattle.fabric_sim.specs.declared.flight.Flight.{Flight}
use Rattle.fabric_sim.specs.Delivery.{after_deliver, with_changed}
use Rattle.fabric_sim.specs.Simulation.{Simulation, agent_at, port_of}
use Rattle.fabric_sim.proofs.AgentLists.{others_stay}
use Rattle.fabric_sim.proofs.TracedCalls.{IsAskedBy}
use Rattle.fabric_sim.proofs.TripShapes.{IsAlong, agent_there}
use Rattle.manager_laws.proofs.AgentSets.{Effect, effect, unset}
use Rattle.manager_laws.proofs.WritingTaken.{upto, was_at}

-- the block at a position
abbrev pub HasBlock : Agent → ℕ → List ℕ → Type 0
HasBlock a position payload = (i : ℕ) → i < 64 → slice_index a.masks (64 * position + i) ≡ slice_index payload i

-- the agent of a node has it
abbrev pub IsBlockAt : Simulation → ℕ → ℕ → List ℕ → Type 0
IsBlockAt s id position payload = (a : Agent) → agent_at s id ≡ Some a → HasBlock a position payload

module _ (a : Agent) (packet : List ℕ) (arrival : ℕ) (is : IsAgent a) (whole : IsPacket packet) (within : arrival ≤ a.node.ports) where
  -- a Set of masks that is taken
  record MasksSet : Type 0 where
    pub sets : number_in method packet ≡ set
    pub taken : status (after_answer a packet arrival).packet ≡ done
    pub attribute : number_in attribute_id packet ≡ multicast_forwarding_table
    pub masks : SetsMasks a (after_answer a packet arrival).agent (position_in (number_in attribute_modifier packet)) (bytes_in attribute_data packet)
        (bytes_in attribute_data (after_answer a packet arrival).packet)

  abbrev AreSame : Type 0
  AreSame = (after_answer a packet arrival).agent.masks ≡ a.masks

  by_effect : (sets : number_in method packet ≡ set) (taken : status (after_answer a packet arrival).packet ≡ done)
      → Effect a packet arrival is whole within sets taken → AreSame ⊎ MasksSet
  unfolding Effect
  by_effect sets taken (inl (e, (port, (meant, sp)))) = inl (ap (λ (x : Agent). x.masks) sp.all_else)
  by_effect sets taken (inr (inl (e, st))) = inl (ap (λ (x : Agent). x.masks) st.all_else)
  by_effect sets taken (inr (inr (inl (e, sb)))) = inl (ap (λ (x : Agent). x.masks) sb.all_else)
  by_effect sets taken (inr (inr (inr (e, sm)))) = inr (record { sets = sets; taken = taken; attribute = e; masks = sm })

  -- any packet leaves the masks, or sets some
  masks_by : AreSame ⊎ MasksSet
  masks_by = by_method (number_in method packet == set) refl
    where
      by_status : number_in method packet ≡ set → (b : Bool) → (status (after_answer a packet arrival).packet == done) ≡ b → AreSame ⊎ MasksSet
      by_status sets true e = let taken = eqb-true _ _ e in by_effect sets taken (effect a packet arrival is whole within sets taken)
      by_status sets false e = inl (ap (λ (x : Agent). x.masks) (refusals_change_nothing a packet arrival is whole (eqb-false _ _ e)))

      by_method : (b : Bool) → (number_in method packet == set) ≡ b → AreSame ⊎ MasksSet
      by_method true e = by_status (eqb-true _ _ e) (status (after_answer a packet arrival).packet == done) refl
      by_method false e = inl (ap (λ (x : Agent). x.masks) (unset a packet arrival is whole within e))

  -- a block stays, if only Sets of the same block write there
  block_stays : (position : ℕ) (payload : List ℕ)
      → (number_in method packet ≡ set → status (after_answer a packet arrival).packet ≡ done → number_in attribute_id packet ≡ multicast_forwarding_table
      → position_in (number_in attribute_modifier packet) ≡ position → bytes_in attribute_data packet ≡ payload)
      → HasBlock a position payload → HasBlock (after_answer a packet arrival).agent position payload
  block_stays position payload keeps held i less =
      elim masks_by [
        | inl same ↦ ap (λ ms. slice_index ms (64 * position + i)) same ∙ held i less
        | inr m ↦ by_position m (position_in (number_in attribute_modifier packet) == position) refl
      ]
    where
      apart : (m n i : ℕ) → i < 64 → m ≢ n → (64 * n + i < 64 * m) ⊎ (64 * m + 64 ≤ 64 * n + i)
      apart m n i less other = elim (cases_lt n m) [ inl lt ↦ inl (omega (arith, lt, less)) | inr ge ↦ inr (omega (arith, ge, less, other)) ]

      by_position : MasksSet → (b : Bool) → (position_in (number_in attribute_modifier packet) == position) ≡ b
          → slice_index (after_answer a packet arrival).agent.masks (64 * position + i) ≡ slice_index payload i
      by_position m true e =
          let same = eqb-true _ _ e in
          ap (λ q. slice_index (after_answer a packet arrival).agent.masks (64 * q + i)) (sym same) ∙ m.masks.inside i less
          ∙ ap (λ d. slice_index d i) (keeps m.sets m.taken m.attribute same)
      by_position m false e =
          m.masks.outside (64 * position + i) (apart (position_in (number_in attribute_modifier packet)) position i less (eqb-false _ _ e)) ∙ held i less

  -- the block that is set
  block_set : number_in method packet ≡ set → status (after_answer a packet arrival).packet ≡ done
      → number_in attribute_id packet ≡ multicast_forwarding_table → (position : ℕ) (payload : List ℕ)
      → position_in (number_in attribute_modifier packet) ≡ position → bytes_in attribute_data packet ≡ payload
      → HasBlock (after_answer a packet arrival).agent position payload
  block_set sets taken attribute position payload at data_is i less =
      let m = masks_are_set a packet arrival (record { agent = is; whole = whole; method = sets; attribute = attribute; done = taken }) in
      ap (λ q. slice_index (after_answer a packet arrival).agent.masks (64 * q + i)) (sym at) ∙ m.inside i less ∙ ap (λ d. slice_index d i) data_is

-- a request that a delivery brings to an agent
module _ (start s : Simulation) (seat : NodePort) (plan : PlanValue) (along : IsAlong start s) (n : ℕ) (flight : Flight) (request : List ℕ)
    (asked : IsAskedBy s n flight request) (id position : ℕ) (payload : List ℕ) where
  abbrev at : NodePort
  at = port_of flight.whereabouts

  abbrev change : Agent → Agent
  change x = (after_answer x request (port_of flight.whereabouts).port).agent

  -- what becomes of the agent there
  at_agent : at.node ≡ id
      → ((b : Agent) → agent_at s at.node ≡ Some b → IsAgent b → at.port ≤ b.node.ports → HasBlock (change b) position payload)
      → IsBlockAt (after_deliver s n).fabric id position payload
  at_agent same becomes a there =
      let here : slice_get (with_changed s.agents at.node change) at.node ≡ Some a =
      ap (λ xs. slice_get xs at.node) (sym asked.agents) ∙ ap (slice_get (after_deliver s n).fabric.agents) same ∙ there in
      let was = was_at s.agents at.node change a here in
      let is_agent : IsAgent was.before = agent_there s.agents at.node was.before along.agents was.there in
      subst (λ (x : Agent). HasBlock x position payload) (sym was.is)
      (becomes was.before was.there is_agent (upto start s seat plan along n flight request asked was.before was.there))

  pub asked_stays : ((b : Agent) → agent_at s at.node ≡ Some b → number_in method request ≡ set → status (after_answer b request at.port).packet ≡ done
      → number_in attribute_id request ≡ multicast_forwarding_table → at.node ≡ id → position_in (number_in attribute_modifier request) ≡ position
      → bytes_in attribute_data request ≡ payload)
      → IsBlockAt s id position payload → IsBlockAt (after_deliver s n).fabric id position payload
  asked_stays keeps held a there = by_id (at.node == id) refl
    where
      by_id : (b : Bool) → (at.node == id) ≡ b → HasBlock a position payload
      by_id false other =
          held a (sym (others_stay s.agents at.node id change (eqb-false _ _ other)) ∙ ap (λ xs. slice_get xs id) (sym asked.agents) ∙ there)
      by_id true e =
          let same = eqb-true _ _ e in
          at_agent same (λ b was is within. block_stays b request at.port is asked.whole within position payload
          (λ sets taken attribute position_is. keeps b was sets taken attribute same position_is) (held b (ap (slice_get s.agents) (sym same) ∙ was))) a there

  pub asked_sets : at.node ≡ id → number_in method request ≡ set
      → ((b : Agent) → agent_at s at.node ≡ Some b → IsAgent b → status (after_answer b request at.port).packet ≡ done)
      → number_in attribute_id request ≡ multicast_forwarding_table → position_in (number_in attribute_modifier request) ≡ position
      → bytes_in attribute_data request ≡ payload → IsBlockAt (after_deliver s n).fabric id position payload
  asked_sets same sets taken attribute position_is data_is =
      at_agent same (λ b was is within. block_set b request at.port is asked.whole within sets (taken b was is) attribute position payload position_is data_is)
