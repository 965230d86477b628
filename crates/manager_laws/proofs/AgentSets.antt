-- What an agent holds of a step, from when it takes the step's Set on, as long as each Set that it takes carries the plan's values.
use Rattle.std.proofs.Common.{◌≡◌, ◌≢◌, ◌⊎◌, inl, inr, ℕ, ◌+◌, ◌*◌, ◌<◌, ◌≤◌, Bool, true, false, List, refl, sym, ap, ◌∙◌, subst, arith}
use Rattle.std.proofs.lemmas.Bool.{cond_both, eqb-true, eqb-false, cases_lt}
use Rattle.std.proofs.lemmas.Option.{same_Some}
use Rattle.std.specs.Prelude.{Contains, Some, slice_index, ◌==◌}
use Rattle.smp_bytes.specs.Header.{get, set, done, port_info, switch_info, linear_forwarding_table, multicast_forwarding_table}
use Rattle.smp_bytes.specs.Field.{number_in, bytes_in}
use Rattle.smp_bytes.specs.Packet.{method, attribute_id, attribute_modifier, attribute_data, status}
use Rattle.attr_codec.specs.PortInfo.{range_in}
use Rattle.attr_codec.specs.SwitchInfo.{linear_fdb_top}
use Rattle.node_agents.specs.declared.port.Port.{Port}
use Rattle.node_agents.specs.Agent.{Agent, IsAgent, range_at, entry_at}
use Rattle.node_agents.specs.PortInfo.{port_meant, has_lid, SetsPort}
use Rattle.node_agents.specs.Answers.{Met, after_answer}
use Rattle.node_agents.specs.AnswerLaws.{IsPacket, IsTaken}
use Rattle.node_agents.specs.LftBlock.{SetsBlock}
use Rattle.node_agents.specs.MftBlock.{SetsMasks, position_in}
use Rattle.node_agents.specs.SwitchInfo.{SetsTop}
use Rattle.node_agents.proofs.Outcomes.{what_is_set}
use Rattle.node_agents.proofs.Sets.{blocks_are_set, masks_are_set, tops_are_set, ports_are_set}
use Rattle.node_agents.proofs.Told.{answered-agent, taken_to, port_taken, refusals_change_nothing}
use Rattle.lid_assign.specs.Lids.{range_of, top_of}
use Rattle.lft_blocks.specs.Plan.{PlanValue, block_at, switches_of}
use Rattle.plan_steps.specs.declared.step.Step.{Step}
use Rattle.manager_laws.specs.Sets.{Carries}

-- an agent holds what a step sets
pub record Holds (a : Agent) (s : Step) : Type 0 where
  pub lids : s.attribute ≡ port_info → range_at a s.modifier ≡ range_in s.payload
  pub top : s.attribute ≡ switch_info → a.top ≡ number_in linear_fdb_top s.payload
  pub block : s.attribute ≡ linear_forwarding_table → (i : ℕ) → i < 64 → entry_at a (64 * s.modifier + i) ≡ slice_index s.payload i

-- a step sets what the plan has for the node of a GUID
pub record IsOfPlan (plan : PlanValue) (guid : ℕ) (s : Step) : Type 0 where
  pub lids : s.attribute ≡ port_info → range_of plan.given (record { node = guid; port = s.modifier }) ≡ Some (range_in s.payload)
  pub top : s.attribute ≡ switch_info → (top_of plan.given ≡ Some (number_in linear_fdb_top s.payload)) × Contains (switches_of plan) guid
  pub block : s.attribute ≡ linear_forwarding_table → block_at plan guid s.modifier ≡ Some s.payload

-- where it sets a port, it means one that has a LID
pub record MeansItsPort (a : Agent) (arrival : ℕ) (s : Step) : Type 0 where
  pub meant : s.attribute ≡ port_info → port_meant a s.modifier arrival ≡ Some s.modifier
  pub has : s.attribute ≡ port_info → has_lid a s.modifier ≡ true

-- a packet asks for what the step sets
pub record AsksFor (s : Step) (packet : List ℕ) : Type 0 where
  pub method : number_in method packet ≡ set
  pub attribute : number_in attribute_id packet ≡ s.attribute
  pub modifier : number_in attribute_modifier packet ≡ s.modifier
  pub payload : bytes_in attribute_data packet ≡ s.payload

module _ (a : Agent) (packet : List ℕ) (arrival : ℕ) (is : IsAgent a) (whole : IsPacket packet) (upto : arrival ≤ a.node.ports) where
  -- only a Set changes it
  pub unset : (number_in method packet == set) ≡ false → (after_answer a packet arrival).agent ≡ a
  unset e =
      answered-agent a packet arrival
      ∙ cond_both (number_in method packet == get) _ _ (λ (m : Met). m.agent ≡ a) (λ _. refl)
      (λ _. cond_both (number_in method packet == set) _ _ (λ (m : Met). m.agent ≡ a) (λ sets. absurd (cc (sym sets ∙ e))) (λ _. refl))

  -- a Set that is taken
  module _ (sets : number_in method packet ≡ set) (taken : status (after_answer a packet arrival).packet ≡ done) where
    is_taken : (number : ℕ) → number_in attribute_id packet ≡ number → IsTaken a packet arrival number
    is_taken number e = record { agent = is; whole = whole; method = sets; attribute = e; done = taken }

    unfoldable pub Effect : Type 0
    Effect =
        ((number_in attribute_id packet ≡ port_info) × ((port : ℕ) × ((port_meant a (number_in attribute_modifier packet) arrival ≡ Some port)
        × SetsPort a (after_answer a packet arrival).agent port (bytes_in attribute_data packet)
        (bytes_in attribute_data (after_answer a packet arrival).packet))))
        ⊎ (((number_in attribute_id packet ≡ switch_info)
        × SetsTop a (after_answer a packet arrival).agent (bytes_in attribute_data packet) (bytes_in attribute_data (after_answer a packet arrival).packet))
        ⊎ (((number_in attribute_id packet ≡ linear_forwarding_table)
        × SetsBlock a (after_answer a packet arrival).agent (number_in attribute_modifier packet) (bytes_in attribute_data packet)
        (bytes_in attribute_data (after_answer a packet arrival).packet))
        ⊎ ((number_in attribute_id packet ≡ multicast_forwarding_table)
        × SetsMasks a (after_answer a packet arrival).agent (position_in (number_in attribute_modifier packet)) (bytes_in attribute_data packet)
        (bytes_in attribute_data (after_answer a packet arrival).packet))))

    pub effect : Effect
    unfolding Effect
    effect =
        let t = taken_to a packet arrival (number_in attribute_id packet) (is_taken (number_in attribute_id packet) refl) in
        elim (what_is_set a t.0 packet arrival t.2.taken) [
          | inl s ↦ let p = port_taken a t.0 (number_in attribute_modifier packet) arrival (bytes_in attribute_data packet) s.taken in
              inl (s.attribute, (p.0, (p.2.meant, ports_are_set a packet arrival p.0 upto (is_taken port_info s.attribute) p.2.meant)))
          | inr other ↦ elim other [
            | inl s ↦ inr (inl (s.1.attribute, tops_are_set a packet arrival (is_taken switch_info s.1.attribute)))
            | inr rest ↦ elim rest [
              | inl s ↦ inr (inr (inl (s.1.attribute, blocks_are_set a packet arrival (is_taken linear_forwarding_table s.1.attribute))))
              | inr s ↦ inr (inr (inr (s.1.attribute, masks_are_set a packet arrival (is_taken multicast_forwarding_table s.1.attribute))))
            ]
          ]
        ]

    -- of the step itself
    module _ (s : Step) (asks : AsksFor s packet) (means : MeansItsPort a arrival s) where
      own_by : Effect → Holds (after_answer a packet arrival).agent s
      unfolding Effect
      own_by (inl (e, (port, (meant, sp)))) =
          let is_port : s.attribute ≡ port_info = sym asks.attribute ∙ e in
          let same : port ≡ s.modifier = same_Some _ _ (sym meant ∙ ap (λ m. port_meant a m arrival) asks.modifier ∙ means.meant is_port) in
          record {
            lids = λ _. ap (range_at (after_answer a packet arrival).agent) (sym same) ∙ sp.lids (ap (has_lid a) same ∙ means.has is_port)
                ∙ ap (range_in) asks.payload;
            top = λ f. let clash : port_info ≡ switch_info = sym is_port ∙ f in absurd (omega (arith, clash));
            block = λ f. let clash : port_info ≡ linear_forwarding_table = sym is_port ∙ f in absurd (omega (arith, clash));
          }
      own_by (inr (inl (e, st))) =
          let is_top : s.attribute ≡ switch_info = sym asks.attribute ∙ e in
          record {
            lids = λ f. let clash : switch_info ≡ port_info = sym is_top ∙ f in absurd (omega (arith, clash));
            top = λ _. ap (λ (x : Agent). x.top) st.all_else ∙ ap (number_in linear_fdb_top) asks.payload;
            block = λ f. let clash : switch_info ≡ linear_forwarding_table = sym is_top ∙ f in absurd (omega (arith, clash));
          }
      own_by (inr (inr (inl (e, sb)))) =
          let is_block : s.attribute ≡ linear_forwarding_table = sym asks.attribute ∙ e in
          record {
            lids = λ f. let clash : linear_forwarding_table ≡ port_info = sym is_block ∙ f in absurd (omega (arith, clash));
            top = λ f. let clash : linear_forwarding_table ≡ switch_info = sym is_block ∙ f in absurd (omega (arith, clash));
            block = λ _ i less. ap (λ m. entry_at (after_answer a packet arrival).agent (64 * m + i)) (sym asks.modifier) ∙ sb.inside i less
                ∙ ap (λ d. slice_index d i) asks.payload;
          }
      own_by (inr (inr (inr (e, sm)))) =
          let is_masks : s.attribute ≡ multicast_forwarding_table = sym asks.attribute ∙ e in
          record {
            lids = λ f. let clash : multicast_forwarding_table ≡ port_info = sym is_masks ∙ f in absurd (omega (arith, clash));
            top = λ f. let clash : multicast_forwarding_table ≡ switch_info = sym is_masks ∙ f in absurd (omega (arith, clash));
            block = λ f. let clash : multicast_forwarding_table ≡ linear_forwarding_table = sym is_masks ∙ f in absurd (omega (arith, clash));
          }

      pub own_set_holds : Holds (after_answer a packet arrival).agent s
      own_set_holds = own_by effect

    -- of any step, where the Set carries the plan's values
    module _ (plan : PlanValue) (s : Step) (of_plan : IsOfPlan plan a.node.guid s) (has : s.attribute ≡ port_info → has_lid a s.modifier ≡ true)
        (carries : Carries plan a arrival packet)
        (held : Holds a s) where
      kept_by : Effect → Holds (after_answer a packet arrival).agent s
      unfolding Effect
      kept_by (inl (e, (port, (meant, sp)))) =
          record {
            lids = λ is_port. by_port is_port (port == s.modifier) refl;
            top = λ f. ap (λ (x : Agent). x.top) sp.all_else ∙ held.top f;
            block = λ f i less. ap (λ (x : Agent). entry_at x (64 * s.modifier + i)) sp.all_else ∙ held.block f i less;
          }
        where
          by_port : s.attribute ≡ port_info → (b : Bool) → (port == s.modifier) ≡ b
              → range_at (after_answer a packet arrival).agent s.modifier ≡ range_in s.payload
          by_port is_port true same_is =
              let same : port ≡ s.modifier = eqb-true _ _ same_is in
              ap (range_at (after_answer a packet arrival).agent) (sym same) ∙ sp.lids (ap (has_lid a) same ∙ has is_port)
              ∙ carries.lids e port (range_in s.payload) meant
              (ap (λ n. range_of plan.given (record { node = a.node.guid; port = n })) same ∙ of_plan.lids is_port)
          by_port is_port false other =
              ap (λ (x : Port). (x.base_lid, x.lmc)) (sp.others s.modifier (λ same. eqb-false _ _ other (sym same))) ∙ held.lids is_port
      kept_by (inr (inl (e, st))) =
          record {
            lids = λ f. ap (λ (x : Agent). range_at x s.modifier) st.all_else ∙ held.lids f;
            top = λ is_top. let p = of_plan.top is_top in ap (λ (x : Agent). x.top) st.all_else ∙ carries.top e (number_in linear_fdb_top s.payload) p.1 p.0;
            block = λ f i less. ap (λ (x : Agent). entry_at x (64 * s.modifier + i)) st.all_else ∙ held.block f i less;
          }
      kept_by (inr (inr (inl (e, sb)))) =
          record {
            lids = λ f. ap (λ (x : Agent). range_at x s.modifier) sb.all_else ∙ held.lids f;
            top = λ f. ap (λ (x : Agent). x.top) sb.all_else ∙ held.top f;
            block = λ is_block i less. by_block is_block i less (number_in attribute_modifier packet == s.modifier) refl;
          }
        where
          by_block : s.attribute ≡ linear_forwarding_table → (i : ℕ) → i < 64 → (b : Bool) → (number_in attribute_modifier packet == s.modifier) ≡ b
              → entry_at (after_answer a packet arrival).agent (64 * s.modifier + i) ≡ slice_index s.payload i
          by_block is_block i less true same_is =
              let same : number_in attribute_modifier packet ≡ s.modifier = eqb-true _ _ same_is in
              ap (λ m. entry_at (after_answer a packet arrival).agent (64 * m + i)) (sym same) ∙ sb.inside i less
              ∙ ap (λ d. slice_index d i) (carries.block e s.payload (ap (block_at plan a.node.guid) same ∙ of_plan.block is_block))
          by_block is_block i less false other_is =
              let other = eqb-false _ _ other_is in
              sb.outside (64 * s.modifier + i) (apart (number_in attribute_modifier packet) s.modifier i less other) ∙ held.block is_block i less
            where
              apart : (m n i : ℕ) → i < 64 → m ≢ n → (64 * n + i < 64 * m) ⊎ (64 * m + 64 ≤ 64 * n + i)
              apart m n i less other = elim (cases_lt n m) [ inl lt ↦ inl (omega (arith, lt, less)) | inr ge ↦ inr (omega (arith, ge, less, other)) ]
      kept_by (inr (inr (inr (e, sm)))) =
          subst (λ (x : Agent). Holds x s) (sym sm.all_else) (record { lids = held.lids; top = held.top; block = held.block })

      kept_in_set : Holds (after_answer a packet arrival).agent s
      kept_in_set = kept_by effect

  -- a step's values stay
  pub held_stays : (plan : PlanValue) (s : Step) → IsOfPlan plan a.node.guid s → (s.attribute ≡ port_info → has_lid a s.modifier ≡ true)
      → (number_in method packet ≡ set → status (after_answer a packet arrival).packet ≡ done → Carries plan a arrival packet)
      → Holds a s → Holds (after_answer a packet arrival).agent s
  held_stays plan s of_plan has carries held = by_method (number_in method packet == set) refl
    where
      by_status : number_in method packet ≡ set → (b : Bool) → (status (after_answer a packet arrival).packet == done) ≡ b
          → Holds (after_answer a packet arrival).agent s
      by_status sets true e = let taken = eqb-true _ _ e in kept_in_set sets taken plan s of_plan has (carries sets taken) held
      by_status sets false e = subst (λ (x : Agent). Holds x s) (sym (refusals_change_nothing a packet arrival is whole (eqb-false _ _ e))) held

      by_method : (b : Bool) → (number_in method packet == set) ≡ b → Holds (after_answer a packet arrival).agent s
      by_method true e = by_status (eqb-true _ _ e) (status (after_answer a packet arrival).packet == done) refl
      by_method false e = subst (λ (x : Agent). Holds x s) (sym (unset e)) held
