-- An agent that is between what it was and a plan stays so while each Set that it takes carries the plan's values.
use Rattle.std.proofs.Common.{◌≡◌, ◌≢◌, ◌⊎◌, inl, inr, ℕ, zero, suc, ◌+◌, ◌*◌, ◌<◌, ◌≤◌, Bool, true, false, List, [], ◌∷◌, refl, sym, ap, ◌∙◌, subst, arith}
use Rattle.std.proofs.lemmas.Bool.{eqb-true, eqb-false, cases_lt}
use Rattle.std.specs.Prelude.{Contains, Some, not, slice_get, slice_index, ◌==◌, ◌||◌}
use Rattle.smp_bytes.specs.Header.{set, done}
use Rattle.smp_bytes.specs.Field.{number_in, bytes_in}
use Rattle.smp_bytes.specs.Packet.{method, attribute_modifier, attribute_data, status}
use Rattle.node_agents.specs.declared.port.Port.{Port}
use Rattle.node_agents.specs.declared.agent_node.AgentNode.{AgentNode}
use Rattle.smp_bytes.specs.NodeType as types
use Rattle.node_agents.specs.Agent.{Agent, IsAgent, entry_at, range_at}
use Rattle.node_agents.specs.PortInfo.{has_lid}
use Rattle.node_agents.specs.Answers.{after_answer}
use Rattle.node_agents.specs.AnswerLaws.{IsPacket}
use Rattle.node_agents.proofs.Told.{refusals_change_nothing}
use Rattle.lid_assign.specs.Lids.{range_of}
use Rattle.plan_tables.specs.Plan.{PlanValue, block_at, switches_of}
use Rattle.manager_laws.specs.Sets.{Carries}
use Rattle.manager_laws.proofs.AgentSets.{Effect, effect, unset}
use Rattle.program_laws.specs.Between.{AnswersKeepBetween, IsBetween}
use Rattle.program_laws.specs.StepPlan.{HasWholeBlocks}

-- an element that `slice_get` finds is the one that `slice_index` gives
got : (xs : List ℕ) (i y : ℕ) → slice_get xs i ≡ Some y → slice_get xs i ≡ Some (slice_index xs i)
got [] i y e = absurd (cc)
got (x ∷ xs) zero y e = refl
got (x ∷ xs) (suc i) y e = got xs i y e

-- whether a port has LIDs depends only on the node
same_lid : (a b : Agent) (m : ℕ) → a.node ≡ b.node → has_lid a m ≡ has_lid b m
same_lid a b m e = ap (λ (n : AgentNode). not (types.is_switch n.kind) || m == 0) e

module _ (plan : PlanValue) (blocks : HasWholeBlocks plan) (first a : Agent) (packet : List ℕ) (arrival : ℕ) (is : IsAgent a) (whole : IsPacket packet)
    (at_most : arrival ≤ a.node.ports)
    (carries_it : number_in method packet ≡ set → status (after_answer a packet arrival).packet ≡ done → Carries plan a arrival packet)
    (was : IsBetween plan first a) where
  guid : a.node.guid ≡ first.node.guid
  guid = ap (λ (n : AgentNode). n.guid) was.node

  module _ (sets : number_in method packet ≡ set) (taken : status (after_answer a packet arrival).packet ≡ done) where
    its : Carries plan a arrival packet
    its = carries_it sets taken

    kept_by : Effect a packet arrival is whole at_most sets taken → IsBetween plan first (after_answer a packet arrival).agent
    unfolding Effect
    kept_by (inl (e, (port, (meant, sp)))) =
        record {
          node = ap (λ (x : Agent). x.node) sp.all_else ∙ was.node;
          ranges = λ m has r. by_port m has r (port == m) refl;
          top = λ top among is_top. elim (was.top top among is_top) [
            | inl s ↦ inl (ap (λ (x : Agent). x.top) sp.all_else ∙ s)
            | inr s ↦ inr (ap (λ (x : Agent). x.top) sp.all_else ∙ s)
          ];
          entries = λ n block is_block i less. elim (was.entries n block is_block i less) [
            | inl s ↦ inl (ap (λ (x : Agent). entry_at x (64 * n + i)) sp.all_else ∙ s)
            | inr s ↦ inr (s ∙ ap (λ k. Some k) (sym (ap (λ (x : Agent). entry_at x (64 * n + i)) sp.all_else)))
          ];
        }
      where
        by_port : (m : ℕ) → has_lid first m ≡ true → range_of plan.given (record { node = first.node.guid; port = m }) ≡ Some (range_at first m)
            → (b : Bool) → (port == m) ≡ b → range_at (after_answer a packet arrival).agent m ≡ range_at first m
        by_port m has r true same_is =
            let same : port ≡ m = eqb-true _ _ same_is in
            ap (range_at (after_answer a packet arrival).agent) (sym same)
            ∙ sp.lids (ap (has_lid a) same ∙ same_lid a first m was.node ∙ has)
            ∙ its.lids e port (range_at first m) meant
            ((λ i. range_of plan.given (record { node = guid i; port = same i })) ∙ r)
        by_port m has r false other =
            ap (λ (x : Port). (x.base_lid, x.lmc)) (sp.others m (λ same. eqb-false _ _ other (sym same))) ∙ was.ranges m has r
    kept_by (inr (inl (e, st))) =
        record {
          node = ap (λ (x : Agent). x.node) st.all_else ∙ was.node;
          ranges = λ m has r. ap (λ (x : Agent). range_at x m) st.all_else ∙ was.ranges m has r;
          top = λ top among is_top.
              inr (ap (λ (x : Agent). x.top) st.all_else ∙ its.top e top (subst (Contains (switches_of plan)) (sym guid) among) is_top);
          entries = λ n block is_block i less. elim (was.entries n block is_block i less) [
            | inl s ↦ inl (ap (λ (x : Agent). entry_at x (64 * n + i)) st.all_else ∙ s)
            | inr s ↦ inr (s ∙ ap (λ k. Some k) (sym (ap (λ (x : Agent). entry_at x (64 * n + i)) st.all_else)))
          ];
        }
    kept_by (inr (inr (inr (e, sm)))) =
        subst (IsBetween plan first) (sym sm.all_else)
        (record { node = was.node; ranges = was.ranges; top = was.top; entries = was.entries })
    kept_by (inr (inr (inl (e, sb)))) =
        record {
          node = ap (λ (x : Agent). x.node) sb.all_else ∙ was.node;
          ranges = λ m has r. ap (λ (x : Agent). range_at x m) sb.all_else ∙ was.ranges m has r;
          top = λ top among is_top. elim (was.top top among is_top) [
            | inl s ↦ inl (ap (λ (x : Agent). x.top) sb.all_else ∙ s)
            | inr s ↦ inr (ap (λ (x : Agent). x.top) sb.all_else ∙ s)
          ];
          entries = λ n block is_block i less. by_block n block is_block i less (number_in attribute_modifier packet == n) refl;
        }
      where
        by_block : (n : ℕ) (block : List ℕ) → block_at plan first.node.guid n ≡ Some block → (i : ℕ) → i < 64
            → (b : Bool) → (number_in attribute_modifier packet == n) ≡ b
            → (entry_at (after_answer a packet arrival).agent (64 * n + i) ≡ entry_at first (64 * n + i))
            ⊎ (slice_get block i ≡ Some (entry_at (after_answer a packet arrival).agent (64 * n + i)))
        by_block n block is_block i less true same_is =
            let same : number_in attribute_modifier packet ≡ n = eqb-true _ _ same_is in
            let payload : bytes_in attribute_data packet ≡ block = its.block e block ((λ j. block_at plan (guid j) (same j)) ∙ is_block) in
            let there = blocks first.node.guid n block is_block i less in
            inr (got block i there.0 there.1
            ∙ ap (λ d. Some (slice_index d i)) (sym payload)
            ∙ ap (λ k. Some k) (sym (ap (λ m. entry_at (after_answer a packet arrival).agent (64 * m + i)) (sym same) ∙ sb.inside i less)))
        by_block n block is_block i less false other_is =
            let other = eqb-false _ _ other_is in
            let out = sb.outside (64 * n + i) (apart (number_in attribute_modifier packet) n i less other) in
            elim (was.entries n block is_block i less) [
              | inl s ↦ inl (out ∙ s)
              | inr s ↦ inr (s ∙ ap (λ k. Some k) (sym out))
            ]
          where
            apart : (m n i : ℕ) → i < 64 → m ≢ n → (64 * n + i < 64 * m) ⊎ (64 * m + 64 ≤ 64 * n + i)
            apart m n i less other = elim (cases_lt n m) [ inl lt ↦ inl (omega (arith, lt, less)) | inr ge ↦ inr (omega (arith, ge, less, other)) ]

  -- after its answer to any packet
  pub answered_between : IsBetween plan first (after_answer a packet arrival).agent
  answered_between = by_method (number_in method packet == set) refl
    where
      by_status : number_in method packet ≡ set → (b : Bool) → (status (after_answer a packet arrival).packet == done) ≡ b
          → IsBetween plan first (after_answer a packet arrival).agent
      by_status sets true e =
          let taken = eqb-true _ _ e in kept_by sets taken (effect a packet arrival is whole at_most sets taken)
      by_status sets false e =
          subst (IsBetween plan first) (sym (refusals_change_nothing a packet arrival is whole (eqb-false _ _ e))) was

      by_method : (b : Bool) → (number_in method packet == set) ≡ b → IsBetween plan first (after_answer a packet arrival).agent
      by_method true e = by_status (eqb-true _ _ e) (status (after_answer a packet arrival).packet == done) refl
      by_method false e = subst (IsBetween plan first) (sym (unset a packet arrival is whole at_most e)) was

pub answers_keep_between : AnswersKeepBetween
answers_keep_between plan blocks first a packet arrival is whole at_most carries was =
    answered_between plan blocks first a packet arrival is whole at_most carries was
