-- While each Set that an agent takes carries a plan's values, whatever holds the plan goes on holding it.
use Rattle.std.proofs.Common.{◌≡◌, ◌≢◌, ◌⊎◌, inl, inr, ℕ, zero, suc, ◌+◌, ◌*◌, ◌<◌, ◌≤◌, Bool, true, false, List, [], ◌∷◌, refl, sym, ap, ◌∙◌, subst, arith}
use Rattle.std.proofs.lemmas.Bool.{eq-eqb, eqb-true, eqb-false, cases_lt}
use Rattle.std.specs.Prelude.{Contains, MatchBool, Option, Some, not, slice_get, slice_index, ◌==◌, ◌||◌}
use Rattle.std.specs.Option.{option_map_or}
use Rattle.fabric_model.specs.declared.cable.NodePort.{NodePort}
use Rattle.smp_bytes.specs.NodeType as types
use Rattle.smp_bytes.specs.Header.{set, done}
use Rattle.smp_bytes.specs.Field.{number_in, bytes_in}
use Rattle.smp_bytes.specs.Packet.{method, attribute_modifier, attribute_data, status}
use Rattle.fabric_model.specs.Fabric as fabrics
use Rattle.fabric_model.specs.Fabric.{Node}
use Rattle.fabric_model.specs.FabricWalks.{IsJoinedTo}
use Rattle.node_agents.specs.declared.port.Port.{Port}
use Rattle.node_agents.specs.Agent.{Agent, IsAgent, base_lid_at, entry_at, is_switch, lmc_at, node_of, range_at}
use Rattle.node_agents.specs.PortInfo.{has_lid}
use Rattle.node_agents.specs.Answers.{after_answer}
use Rattle.node_agents.specs.AnswerLaws.{IsPacket}
use Rattle.node_agents.proofs.Told.{refusals_change_nothing}
use Rattle.fabric_sim.specs.Simulation.{Simulation, agent_at, fabric_of, port_of}
use Rattle.fabric_sim.specs.Delivery.{after_deliver}
use Rattle.fabric_sim.proofs.AgentLists.{changed_at_id, others_stay}
use Rattle.fabric_sim.proofs.SeenFabrics.{agent_seen}
use Rattle.fabric_sim.proofs.TracedCalls.{AsksAnAgent}
use Rattle.fabric_sim.proofs.TripShapes.{IsAlong, agent_there}
use Rattle.lid_assign.specs.Lids.{range_of, top_of}
use Rattle.lft_blocks.specs.InForce.{HoldsPlan, HoldsPlanAt}
use Rattle.lft_blocks.specs.Plan.{PlanValue, block_at, switches_of}
use Rattle.subnet_view.specs.FabricAgreement.{Part, IsEndPortIn}
use Rattle.manager_laws.proofs.Alike.{holding, joined_there, nodes_along}
use Rattle.manager_laws.specs.Sets.{Carries, TakesSet}
use Rattle.manager_laws.proofs.AgentSets.{Effect, effect, unset}
use Rattle.manager_laws.proofs.WritingTaken.{carries, node_of_agent, nodes_stay, upto}

-- an agent ---------------------------------------------------------------------------------------------

-- what one agent holds of a plan, the other does: it is the agent later on
pub record KeepsHeld (plan : PlanValue) (a b : Agent) : Type 0 where
  pub ranges : (m : ℕ) → has_lid a m ≡ true → range_of plan.given (record { node = a.node.guid; port = m }) ≡ Some (range_at a m)
      → range_at b m ≡ range_at a m
  pub top : (top : ℕ) → Contains (switches_of plan) a.node.guid → top_of plan.given ≡ Some top → top ≤ a.top → top ≤ b.top
  pub blocks : (n : ℕ) (block : List ℕ) → block_at plan a.node.guid n ≡ Some block
      → ((i : ℕ) → i < 64 → slice_get block i ≡ Some (entry_at a (64 * n + i)))
      → (i : ℕ) → i < 64 → slice_get block i ≡ Some (entry_at b (64 * n + i))

pub itself : (plan : PlanValue) (a : Agent) → KeepsHeld plan a a
itself plan a = record { ranges = λ m has is. refl; top = λ top among is upto. upto; blocks = λ n block is held. held }

-- what is there by one reading is by the other
got : (xs : List ℕ) (i y : ℕ) → slice_get xs i ≡ Some y → slice_get xs i ≡ Some (slice_index xs i)
got [] i y e = absurd (cc)
got (x ∷ xs) zero y e = refl
got (x ∷ xs) (suc i) y e = got xs i y e

module _ (plan : PlanValue) (a : Agent) (packet : List ℕ) (arrival : ℕ) (is : IsAgent a) (whole : IsPacket packet) (at_most : arrival ≤ a.node.ports)
    (carries_it : number_in method packet ≡ set → status (after_answer a packet arrival).packet ≡ done → Carries plan a arrival packet) where
  module _ (sets : number_in method packet ≡ set) (taken : status (after_answer a packet arrival).packet ≡ done) where
    its : Carries plan a arrival packet
    its = carries_it sets taken

    kept_by : Effect a packet arrival is whole at_most sets taken → KeepsHeld plan a (after_answer a packet arrival).agent
    unfolding Effect
    kept_by (inl (e, (port, (meant, sp)))) =
        record {
          ranges = λ m has r. by_port m has r (port == m) refl;
          top = λ top among is_top most. let same = ap (λ (x : Agent). x.top) sp.all_else in omega (arith, most, same);
          blocks = λ n block is_block held i less. held i less
              ∙ ap (λ k. Some k) (sym (ap (λ (x : Agent). entry_at x (64 * n + i)) sp.all_else));
        }
      where
        by_port : (m : ℕ) → has_lid a m ≡ true → range_of plan.given (record { node = a.node.guid; port = m }) ≡ Some (range_at a m)
            → (b : Bool) → (port == m) ≡ b → range_at (after_answer a packet arrival).agent m ≡ range_at a m
        by_port m has r true same_is =
            let same : port ≡ m = eqb-true _ _ same_is in
            ap (range_at (after_answer a packet arrival).agent) (sym same) ∙ sp.lids (ap (has_lid a) same ∙ has)
            ∙ its.lids e port (range_at a m) meant (ap (λ n. range_of plan.given (record { node = a.node.guid; port = n })) same ∙ r)
        by_port m has r false other =
            ap (λ (x : Port). (x.base_lid, x.lmc)) (sp.others m (λ same. eqb-false _ _ other (sym same)))
    kept_by (inr (inl (e, st))) =
        record {
          ranges = λ m has r. ap (λ (x : Agent). range_at x m) st.all_else;
          top = λ top among is_top most. let same = ap (λ (x : Agent). x.top) st.all_else ∙ its.top e top among is_top in omega (arith, same);
          blocks = λ n block is_block held i less. held i less
              ∙ ap (λ k. Some k) (sym (ap (λ (x : Agent). entry_at x (64 * n + i)) st.all_else));
        }
    kept_by (inr (inr (inr (e, sm)))) =
        subst (KeepsHeld plan a) (sym sm.all_else)
        (record { ranges = λ m has r. refl; top = λ top among is_top most. most; blocks = λ n block is_block held. held })
    kept_by (inr (inr (inl (e, sb)))) =
        record {
          ranges = λ m has r. ap (λ (x : Agent). range_at x m) sb.all_else;
          top = λ top among is_top most. let same = ap (λ (x : Agent). x.top) sb.all_else in omega (arith, most, same);
          blocks = λ n block is_block held i less. by_block n block is_block held i less (number_in attribute_modifier packet == n) refl;
        }
      where
        by_block : (n : ℕ) (block : List ℕ) → block_at plan a.node.guid n ≡ Some block
            → ((i : ℕ) → i < 64 → slice_get block i ≡ Some (entry_at a (64 * n + i))) → (i : ℕ) → i < 64
            → (b : Bool) → (number_in attribute_modifier packet == n) ≡ b
            → slice_get block i ≡ Some (entry_at (after_answer a packet arrival).agent (64 * n + i))
        by_block n block is_block held i less true same_is =
            let same : number_in attribute_modifier packet ≡ n = eqb-true _ _ same_is in
            let payload : bytes_in attribute_data packet ≡ block = its.block e block (ap (block_at plan a.node.guid) same ∙ is_block) in
            got block i (entry_at a (64 * n + i)) (held i less)
            ∙ ap (λ d. Some (slice_index d i)) (sym payload)
            ∙ ap (λ k. Some k) (sym (ap (λ m. entry_at (after_answer a packet arrival).agent (64 * m + i)) (sym same) ∙ sb.inside i less))
        by_block n block is_block held i less false other_is =
            let other = eqb-false _ _ other_is in
            held i less ∙ ap (λ k. Some k) (sym (sb.outside (64 * n + i) (apart (number_in attribute_modifier packet) n i less other)))
          where
            apart : (m n i : ℕ) → i < 64 → m ≢ n → (64 * n + i < 64 * m) ⊎ (64 * m + 64 ≤ 64 * n + i)
            apart m n i less other = elim (cases_lt n m) [ inl lt ↦ inl (omega (arith, lt, less)) | inr ge ↦ inr (omega (arith, ge, less, other)) ]

  -- whatever it is asked
  pub answered_keeps : KeepsHeld plan a (after_answer a packet arrival).agent
  answered_keeps = by_method (number_in method packet == set) refl
    where
      by_status : number_in method packet ≡ set → (b : Bool) → (status (after_answer a packet arrival).packet == done) ≡ b
          → KeepsHeld plan a (after_answer a packet arrival).agent
      by_status sets true e =
          let taken = eqb-true _ _ e in kept_by sets taken (effect a packet arrival is whole at_most sets taken)
      by_status sets false e =
          subst (KeepsHeld plan a) (sym (refusals_change_nothing a packet arrival is whole (eqb-false _ _ e))) (itself plan a)

      by_method : (b : Bool) → (number_in method packet == set) ≡ b → KeepsHeld plan a (after_answer a packet arrival).agent
      by_method true e = by_status (eqb-true _ _ e) (status (after_answer a packet arrival).packet == done) refl
      by_method false e = subst (KeepsHeld plan a) (sym (unset a packet arrival is whole at_most e)) (itself plan a)

-- a part of a fabric -----------------------------------------------------------------------------------------

-- an end port's own port has a LID
lid_there : (kind local : Bool) (port ports : ℕ) → kind ≡ local → MatchBool kind (port ≡ 0) ((1 ≤ port) × (port ≤ ports)) → (not local || port == 0) ≡ true
lid_there true local port ports e zero_is = ap (λ (t : Bool). not t || port == 0) (sym e) ∙ eq-eqb port 0 zero_is
lid_there false local port ports e within = ap (λ (t : Bool). not t || port == 0) (sym e)

module _ (start : Simulation) (plan : PlanValue) (part : Part) where
  -- each end port of the part that there was at first holds the plan
  abbrev pub HeldOn : Simulation → Type 0
  HeldOn s = (port : NodePort) (node : Node) → IsEndPortIn part (fabric_of start) port node → HoldsPlanAt plan (fabric_of s) port node

  -- each switch of the part is one of the plan's
  abbrev pub AreListed : Type 0
  AreListed = (port : NodePort) (node : Node) → IsEndPortIn part (fabric_of start) port node → types.is_switch node.kind ≡ true
      → Contains (switches_of plan) node.guid

  -- each agent keeps what it holds of the plan
  abbrev pub AgentsKeep : Simulation → Simulation → Type 0
  AgentsKeep s after = (id : ℕ) (a : Agent) → agent_at s id ≡ Some a → (b : Agent) × (agent_at after id ≡ Some b) × KeepsHeld plan a b

  -- each end port of the part that there was at first has the plan's LID
  abbrev pub HasLids : Simulation → Type 0
  HasLids s = (port : NodePort) (node : Node) → IsEndPortIn part (fabric_of start) port node
      → range_of plan.given (record { node = node.guid; port = port.port }) ≡ Some (fabrics.range_at (fabric_of s) port)

  -- it keeps it
  pub lids_later : (s after : Simulation) → IsAlong start s → AgentsKeep s after → HasLids s → HasLids after
  lids_later s after along keep has port node end =
      let (a, there, seen) =
      agent_seen s port.node node (ap (λ (ns : List Node). slice_get ns port.node) (sym (nodes_along start s along)) ∙ end.node_there) in
      let (b, now, keeps) = keep port.node a there in
      let same : node ≡ node_of a = node_of_agent start s along port.node node a end.node_there there in
      let guid : node.guid ≡ a.node.guid = ap (λ (n : Node). n.guid) same in
      let (other, other_there, its_number) = end.end_port in
      let number : fabrics.IsEndPortNumber node port.port =
      subst (λ (n : Node). fabrics.IsEndPortNumber n port.port) (same_some other node (sym other_there ∙ end.node_there)) its_number in
      let was : fabrics.range_at (fabric_of s) port ≡ range_at a port.port =
      ap (λ o. (option_map_or (λ x. base_lid_at x port.port) o 0, option_map_or (λ x. lmc_at x port.port) o 0)) there in
      let is : fabrics.range_at (fabric_of after) port ≡ range_at b port.port =
      ap (λ o. (option_map_or (λ x. base_lid_at x port.port) o 0, option_map_or (λ x. lmc_at x port.port) o 0)) now in
      let can_have : has_lid a port.port ≡ true =
      lid_there (types.is_switch node.kind) (is_switch a) port.port node.ports (ap (λ (n : Node). types.is_switch n.kind) same) number in
      let given : range_of plan.given (record { node = a.node.guid; port = port.port }) ≡ Some (range_at a port.port) =
      ap (λ g. range_of plan.given (record { node = g; port = port.port })) (sym guid) ∙ has port node end ∙ ap (λ r. Some r) was in
      has port node end ∙ ap (λ r. Some r) (was ∙ sym (keeps.ranges port.port can_have given) ∙ sym is)
    where
      same_some : (x y : Node) → ◌≡◌ {A = Option Node} (Some x) (Some y) → x ≡ y
      same_some x y e = cc

  module _ (listed : AreListed) (s after : Simulation) (along : IsAlong start s) (keep : AgentsKeep s after) (held : HeldOn s) where
    pub held_later : HeldOn after
    held_later port node end =
        let (a, there, seen) =
        agent_seen s port.node node (ap (λ (ns : List Node). slice_get ns port.node) (sym (nodes_along start s along)) ∙ end.node_there) in
        let (b, now, keeps) = keep port.node a there in
        let same : node ≡ node_of a = node_of_agent start s along port.node node a end.node_there there in
        let guid : node.guid ≡ a.node.guid = ap (λ (n : Node). n.guid) same in
        let h = held port node end in
        record {
          lids = lids_later s after along keep (λ p n is. (held p n is).lids) port node end;
          top = λ switch top is_top.
              let top_was = ap (λ o. option_map_or (λ (x : Agent). x.top) o 0) there in
              let top_now = ap (λ o. option_map_or (λ (x : Agent). x.top) o 0) now in
              let at_first = h.top switch top is_top in
              let kept = keeps.top top (subst (Contains (switches_of plan)) guid (listed port node end switch)) is_top (omega (arith, at_first, top_was)) in
              omega (arith, kept, top_now);
          blocks = λ n block is_block i less.
              keeps.blocks n block (ap (λ g. block_at plan g n) (sym guid) ∙ is_block)
              (λ j l. h.blocks n block is_block j l ∙ ap (λ o. Some (option_map_or (λ x. entry_at x (64 * n + j)) o 255)) there) i less
              ∙ ap (λ o. Some (option_map_or (λ x. entry_at x (64 * n + i)) o 255)) (sym now);
        }

  -- where no agent changes
  pub same_keep : (s after : Simulation) → after.agents ≡ s.agents → AgentsKeep s after
  same_keep s after same id a there = (a, ap (λ (xs : List Agent). slice_get xs id) same ∙ there, itself plan a)

  -- where the delivery of a packet asks one
  pub delivery_keeps : (s : Simulation) (seat : NodePort) → IsAlong start s → (n : ℕ)
      → ((at : NodePort) (a : Agent) (packet : List ℕ) → TakesSet s n at a packet → Carries plan a at.port packet)
      → ((after_deliver s n).fabric.agents ≡ s.agents) ⊎ AsksAnAgent s n → AgentsKeep s (after_deliver s n).fabric
  delivery_keeps s seat along n all (inl same) id a there = same_keep s (after_deliver s n).fabric same id a there
  delivery_keeps s seat along n all (inr asks) id a there = by_id ((port_of asks.flight.whereabouts).node == id) refl
    where
      by_id : (b : Bool) → ((port_of asks.flight.whereabouts).node == id) ≡ b
          → (b : Agent) × (agent_at (after_deliver s n).fabric id ≡ Some b) × KeepsHeld plan a b
      by_id false other = (
        a,
        ap (λ (xs : List Agent). slice_get xs id) asks.asked.agents
            ∙ others_stay s.agents (port_of asks.flight.whereabouts).node id (λ x. (after_answer x asks.request (port_of asks.flight.whereabouts).port).agent)
            (eqb-false _ _ other)
            ∙ there,
        itself plan a,
      )
      by_id true same_is =
          let same : (port_of asks.flight.whereabouts).node ≡ id = eqb-true _ _ same_is in
          let here : agent_at s (port_of asks.flight.whereabouts).node ≡ Some a = ap (slice_get s.agents) same ∙ there in
          let is_agent : IsAgent a = agent_there s.agents (port_of asks.flight.whereabouts).node a along.agents here in
          let most = upto start s seat plan along n asks.flight asks.request asks.asked a here in (
            (after_answer a asks.request (port_of asks.flight.whereabouts).port).agent,
            ap (slice_get (after_deliver s n).fabric.agents) (sym same)
                ∙ ap (λ (xs : List Agent). slice_get xs (port_of asks.flight.whereabouts).node) asks.asked.agents
                ∙ changed_at_id s.agents (port_of asks.flight.whereabouts).node a
                (λ x. (after_answer x asks.request (port_of asks.flight.whereabouts).port).agent) here,
            answered_keeps plan a asks.request (port_of asks.flight.whereabouts).port is_agent asks.asked.whole most
                (carries start s seat plan along n asks.flight asks.request asks.asked all a here),
          )

-- what is joined to a seat, as the fabric goes on -----------------------------------------------------------------

-- it is the same of two fabrics with the same nodes and cables
joined_alike : (s t : Simulation) → (fabric_of s).nodes ≡ (fabric_of t).nodes → s.peers ≡ t.peers → (seat p : NodePort)
    → IsJoinedTo (fabric_of s) seat p → IsJoinedTo (fabric_of t) seat p
joined_alike s t nodes peers seat p joined =
    let f = fabric_of t in
    let same : ◌≡◌ {A = fabrics.Fabric} (holding (fabric_of s) f.base_lid f.lmc f.entry f.top) f =
    λ j. record { nodes = nodes j; across = across_alike j; base_lid = f.base_lid; lmc = f.lmc; entry = f.entry; top = f.top } in
    subst (λ (x : fabrics.Fabric). IsJoinedTo x seat p) same (joined_there (fabric_of s) f.base_lid f.lmc f.entry f.top seat p joined)
  where
    across_alike : ◌≡◌ {A = NodePort → Option NodePort} (fabric_of s).across (fabric_of t).across
    across_alike = ap (λ ps. (fabric_of (record s { peers = ps })).across) peers

-- it is what was joined to it
pub joined_along : (start s : Simulation) → IsAlong start s → (seat p : NodePort) → IsJoinedTo (fabric_of s) seat p → IsJoinedTo (fabric_of start) seat p
joined_along start s along seat p joined = joined_alike s start (sym (nodes_along start s along)) along.peers seat p joined

-- so it holds the plan as it is now
pub holds_now : (start s : Simulation) (plan : PlanValue) (seat : NodePort) → IsAlong start s → HeldOn start plan (IsJoinedTo (fabric_of start) seat) s
    → HoldsPlan (IsJoinedTo (fabric_of s) seat) plan (fabric_of s)
holds_now start s plan seat along held port node end =
    held port node (record {
      node_there = nodes_stay start s along port.node node end.node_there;
      end_port = at_first;
      in_part = joined_along start s along seat port end.in_part;
    })
  where
    at_first : fabrics.IsEndPort (fabric_of start) port
    at_first =
        subst (λ (ns : List Node). (n : Node) × (slice_get ns port.node ≡ Some n)
        × fabrics.IsEndPortNumber n port.port) (sym (nodes_along start s along)) end.end_port

-- and what holds the plan as it is now is what was there at first
pub held_of_now : (start s : Simulation) (plan : PlanValue) (seat : NodePort) → IsAlong start s → HoldsPlan (IsJoinedTo (fabric_of s) seat) plan (fabric_of s)
    → HeldOn start plan (IsJoinedTo (fabric_of start) seat) s
held_of_now start s plan seat along holds port node end =
    holds port node (record {
      node_there = ap (λ (ns : List Node). slice_get ns port.node) (sym (nodes_along start s along)) ∙ end.node_there;
      end_port = subst (λ (ns : List Node). (n : Node) × (slice_get ns port.node ≡ Some n) × fabrics.IsEndPortNumber n port.port)
          (nodes_along start s along) end.end_port;
      in_part = joined_alike start s (nodes_along start s along) (sym along.peers) seat port end.in_part;
    })
