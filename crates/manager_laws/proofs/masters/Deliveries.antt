-- By a delivery each agent keeps what it holds of the plan, and each port its LID, where each Set on its way was sent from a seat and carries the plan's values at the
-- end of its path.
use Rattle.std.proofs.Common.{◌≡◌, ◌⊎◌, inl, inr, ℕ, ◌+◌, ◌≤◌, Bool, true, false, cond, List, length, refl, sym, ap, ◌∙◌, subst, arith}
use Rattle.std.proofs.lemmas.Bool.{and_parts, eqb-true, eqb-false, leb-true}
use Rattle.std.proofs.lemmas.Option.{same_Some, slice_get-map}
use Rattle.std.specs.Prelude.{Some, None, not, nat_le, option_map, slice_get, slice_set, ◌==◌, ◌||◌}
use Rattle.std.specs.Option.{option_map_or}
use Rattle.fabric_model.specs.declared.cable.NodePort.{NodePort}
use Rattle.fabric_model.specs.Fabric as fabrics
use Rattle.fabric_model.specs.Fabric.{Fabric, IsNodeAt, Node}
use Rattle.fabric_model.specs.FabricWalks.{IsJoinedTo, vertex_of}
use Rattle.fabric_model.specs.DirectedWalk.{directed_end}
use Rattle.fabric_model.proofs.FabricWalks.{adapter_vertex, port_at, switch_vertex, type_at, vertex_is_end}
use Rattle.smp_bytes.specs.Header.{set, port_info, switch_info, linear_forwarding_table, sm_info}
use Rattle.smp_bytes.specs.Field.{bytes_in, number_in}
use Rattle.smp_bytes.specs.Packet.{attribute_data, attribute_id, attribute_modifier, is_directed, method}
use Rattle.dr_forward.proofs.Trips.{IsOut, IsRequestOver, field_kept}
use Rattle.node_agents.specs.Agent.{Agent, IsAgent, base_lid_at, is_switch, lmc_at, node_of, range_at}
use Rattle.node_agents.specs.Answers.{after_answer}
use Rattle.node_agents.specs.PortInfo.{has_lid, port_meant}
use Rattle.fabric_sim.specs.Simulation.{Simulation, AreCables, IsSimulation, agent_at, fabric_of, port_count, port_of}
use Rattle.fabric_sim.specs.Delivery.{after_deliver, with_changed}
use Rattle.fabric_sim.proofs.AgentLists.{changed_at_id}
use Rattle.fabric_sim.proofs.Traced.{IsRequestFor}
use Rattle.fabric_sim.proofs.TracedCalls.{AreTraced}
use Rattle.fabric_sim.proofs.TripShapes.{IsAlong, agent_there}
use Rattle.attr_codec.specs.PortInfo.{range_in}
use Rattle.attr_codec.specs.SwitchInfo.{linear_fdb_top}
use Rattle.fabric_sim.specs.declared.flight.Flight.{Flight}
use Rattle.lid_assign.specs.Lids.{range_of}
use Rattle.lft_blocks.specs.Plan.{PlanValue, block_at}
use Rattle.manager_laws.specs.Sets.{Carries, TakesSet}
use Rattle.manager_laws.proofs.Alike.{nodes_along}
use Rattle.manager_laws.proofs.Sound.{CanBeSwept}
use Rattle.fabric_sim.proofs.AgentLists.{others_stay}
use Rattle.manager_laws.proofs.takeover.HeldOn.{HasLids, KeepsHeld, answered_keeps, itself}
use Rattle.manager_laws.proofs.masters.Harmless.{AreHarmless, Asked, asks_or_not}
use Rattle.manager_laws.proofs.masters.Joined.{end_joined}
use Rattle.manager_laws.proofs.masters.KeptLids.{KeepsLids, answered_keeps_lids}

-- a Set of SMInfo carries the values of any plan
info_carries : (plan : PlanValue) (a : Agent) (arrival : ℕ) (packet : List ℕ) → number_in attribute_id packet ≡ sm_info → Carries plan a arrival packet
info_carries plan a arrival packet is =
    record {
      lids = λ e. let clash : sm_info ≡ port_info = sym is ∙ e in absurd (omega (arith, clash));
      top = λ e. let clash : sm_info ≡ switch_info = sym is ∙ e in absurd (omega (arith, clash));
      block = λ e. let clash : sm_info ≡ linear_forwarding_table = sym is ∙ e in absurd (omega (arith, clash));
    }

module _ (start : Simulation) (plan : PlanValue) (IsSeat : NodePort → Type 0) where
  -- a request that was sent from one of the seats carries the plan's values wherever its path leads
  pub record IsPlannedFrom (origin : NodePort) (request : List ℕ) : Type 0 where
    pub is_seat : IsSeat origin
    pub carries : (path : List ℕ) → IsRequestOver path request → (end : NodePort) → directed_end (fabric_of start) origin path ≡ Some end
        → (now : Simulation) → IsAlong start now → (a : Agent) → agent_at now end.node ≡ Some a
        → (packet : List ℕ) (notes : ℕ → ℕ) (hops : ℕ) → IsOut request notes hops packet → Carries plan a end.port packet

  -- so it is of each that sets something other than SMInfo
  abbrev pub Sends : NodePort → List ℕ → Type 0
  Sends origin request = number_in method request ≡ set → (number_in attribute_id request ≡ sm_info) ⊎ IsPlannedFrom origin request

  -- of answers nothing is asked
  abbrev pub Tells : NodePort → NodePort → List ℕ → Type 0
  Tells origin end answer = Unit {0}

  module _ (cables : AreCables start) (counts : (id : ℕ) → port_count start id ≤ 254)
      {s : Simulation} (along : IsAlong start s) (is : IsSimulation s) (on : AreTraced Sends Tells start s.flights) (harmless : AreHarmless s.flights) where
    abbrev f : Fabric
    f = fabric_of start

    -- a request that comes to an agent
    module _ (n : ℕ) (x : Asked Sends Tells cables counts along is on harmless n) (a : Agent) (there : agent_at s x.at.node ≡ Some a) where
      -- as it was sent from one of the seats, or a Set of SMInfo
      sent_so : number_in method x.request ≡ set
          → (number_in attribute_id x.request ≡ sm_info)
          ⊎ ((r : IsRequestFor Sends Tells start x.at x.request) × IsPlannedFrom r.origin r.request)
      sent_so sets = by_class (is_directed x.request) refl
        where
          by_sent : (r : IsRequestFor Sends Tells start x.at x.request) → (number_in attribute_id r.request ≡ sm_info) ⊎ IsPlannedFrom r.origin r.request
              → (number_in attribute_id x.request ≡ sm_info) ⊎ ((r : IsRequestFor Sends Tells start x.at x.request) × IsPlannedFrom r.origin r.request)
          by_sent r (inl info) = inl (field_kept attribute_id r.request x.request (inr (omega arith, omega arith)) r.bytes_are.kept ∙ info)
          by_sent r (inr planned) = inr (r, planned)

          by_class : (b : Bool) → is_directed x.request ≡ b
              → (number_in attribute_id x.request ≡ sm_info) ⊎ ((r : IsRequestFor Sends Tells start x.at x.request) × IsPlannedFrom r.origin r.request)
          by_class false e = inl (x.its e sets)
          by_class true e =
              let r = x.for_agent.request e in
              by_sent r (r.sent (sym (field_kept method r.request x.request (inl (omega arith)) r.bytes_are.kept) ∙ sets))

      carries : number_in method x.request ≡ set → Carries plan a x.at.port x.request
      carries sets = elim (sent_so sets) [
        | inl info ↦ info_carries plan a x.at.port x.request info
        | inr (r, planned) ↦ planned.carries r.path r.over x.at r.leads s along a there x.request _ (length r.path + 1) r.bytes_are
      ]

      is_agent : IsAgent a
      is_agent = agent_there s.agents x.at.node a along.agents there

      -- the agent's node is one of the fabric
      node_there : IsNodeAt (fabric_of start) x.at.node (node_of a)
      node_there =
          ap (λ (ns : List Node). slice_get ns x.at.node) (nodes_along start s along)
          ∙ slice_get-map node_of s.agents x.at.node ∙ ap (option_map node_of) there

      at_least : (1 ≤ x.at.port) × (x.at.port ≤ a.node.ports)
      at_least =
          let parts = and_parts (nat_le 1 x.at.port) (nat_le x.at.port (port_count s x.at.node)) x.port in
          let count : port_count s x.at.node ≡ a.node.ports = ap (λ o. option_map_or (λ (y : Agent). y.node.ports) o 0) there in
          let most : x.at.port ≤ port_count s x.at.node = leb-true _ _ parts.1 in
          (leb-true _ _ parts.0, omega (arith, most, count))

      -- the port that it means is its vertex, where it has a LID
      vertex_is : (port : ℕ) → has_lid a port ≡ true → port_meant a (number_in attribute_modifier x.request) x.at.port ≡ Some port
          → vertex_of (fabric_of start) x.at ≡ port_at x.at.node port
      vertex_is port has meant = by_kind (is_switch a) refl has meant
        where
          by_meant : (b : Bool) → cond b (Some x.at.port) None ≡ Some port → x.at.port ≡ port
          by_meant true h = same_Some x.at.port port h
          by_meant false h = absurd (cc)

          by_kind : (b : Bool) → is_switch a ≡ b → (not b || port == 0) ≡ true
              → cond b (cond (nat_le (number_in attribute_modifier x.request) a.node.ports) (Some (number_in attribute_modifier x.request)) None)
              (cond (number_in attribute_modifier x.request == 0 || number_in attribute_modifier x.request == x.at.port) (Some x.at.port) None) ≡ Some port
              → vertex_of (fabric_of start) x.at ≡ port_at x.at.node port
          by_kind true switch zero_is m =
              switch_vertex (fabric_of start) x.at (type_at (fabric_of start) x.at.node (node_of a) node_there ∙ switch)
              ∙ ap (port_at x.at.node) (sym (eqb-true port 0 zero_is))
          by_kind false switch h m =
              adapter_vertex (fabric_of start) x.at (type_at (fabric_of start) x.at.node (node_of a) node_there ∙ switch)
              ∙ ap (port_at x.at.node) (by_meant (number_in attribute_modifier x.request == 0 || number_in attribute_modifier x.request == x.at.port) m)

    -- a Set that an agent takes --------------------------------------------------------------------

    -- an agent is asked for it
    taken_asked : (n : ℕ) (at : NodePort) (a : Agent) (packet : List ℕ) → TakesSet s n at a packet
        → Asked Sends Tells cables counts along is on harmless n
    taken_asked n at a packet takes = elim (asks_or_not Sends Tells cables counts along is on harmless n) [
      | inl nobody ↦ absurd (nobody.unanswered s.next takes.result)
      | inr x ↦ x
    ]

    -- it carries the plan's values
    pub taken_carries : (n : ℕ) (at : NodePort) (a : Agent) (packet : List ℕ) → TakesSet s n at a packet → Carries plan a at.port packet
    taken_carries n at a packet takes =
        let x = taken_asked n at a packet takes in
        let flight : x.flight ≡ takes.flight = same_Some _ _ (sym x.waits ∙ takes.waits) in
        let where_is : x.at ≡ at = sym x.at_is ∙ ap (λ (f : Flight). port_of f.whereabouts) flight ∙ takes.waits_at in
        let bytes : x.flight.packet.bytes ≡ packet = ap (λ (f : Flight). f.packet.bytes) flight ∙ takes.bytes in
        let there : agent_at s x.at.node ≡ Some a = ap (λ (p : NodePort). agent_at s p.node) where_is ∙ takes.there in
        let c = carries n x a there (x.same.method_is ∙ ap (number_in method) bytes ∙ takes.method) in
        let attribute : number_in attribute_id x.request ≡ number_in attribute_id packet = x.same.attribute_is ∙ ap (number_in attribute_id) bytes in
        let modifier : number_in attribute_modifier x.request ≡ number_in attribute_modifier packet =
        x.same.modifier_is ∙ ap (number_in attribute_modifier) bytes in
        let data_is : bytes_in attribute_data x.request ≡ bytes_in attribute_data packet = x.same.data_is ∙ ap (bytes_in attribute_data) bytes in
        record {
          lids = λ e port range meant has. ap range_in (sym data_is)
              ∙ c.lids (attribute ∙ e) port range ((λ j. port_meant a (modifier j) (where_is j).port) ∙ meant) has;
          top = λ e top switch is_top. ap (number_in linear_fdb_top) (sym data_is) ∙ c.top (attribute ∙ e) top switch is_top;
          block = λ e block is_block. sym data_is ∙ c.block (attribute ∙ e) block (ap (block_at plan a.node.guid) modifier ∙ is_block);
        }

    -- where what is joined to each seat holds the plan's LIDs
    module _ (can : (seat : NodePort) → IsSeat seat → CanBeSwept (fabric_of start) seat)
        (has_lids : (seat : NodePort) → IsSeat seat → HasLids start plan (IsJoinedTo (fabric_of start) seat) s) where
      -- what a Set asks for has the plan's LID
      module _ (n : ℕ) (x : Asked Sends Tells cables counts along is on harmless n) (a : Agent) (there : agent_at s x.at.node ≡ Some a) where
        has_planned : number_in method x.request ≡ set → number_in attribute_id x.request ≡ port_info → (port : ℕ) → has_lid a port ≡ true
            → port_meant a (number_in attribute_modifier x.request) x.at.port ≡ Some port
            → range_of plan.given (record { node = a.node.guid; port = port }) ≡ Some (range_at a port)
        has_planned sets is_port port has meant = elim (sent_so n x a there sets) [
          | inl info ↦ let clash : sm_info ≡ port_info = sym info ∙ is_port in absurd (omega (arith, clash))
          | inr (r, planned) ↦ by_seat r planned
        ]
          where
            by_seat : (r : IsRequestFor Sends Tells start x.at x.request) → IsPlannedFrom r.origin r.request
                → range_of plan.given (record { node = a.node.guid; port = port }) ≡ Some (range_at a port)
            by_seat r planned =
                let same = vertex_is n x a there port has meant in
                let joined : IsJoinedTo (fabric_of start) r.origin (port_at x.at.node port) =
                subst (IsJoinedTo (fabric_of start) r.origin) same
                (end_joined (fabric_of start) r.origin (can r.origin planned.is_seat) r.path x.at r.own r.leads) in
                let end : fabrics.IsEndPort (fabric_of start) (port_at x.at.node port) =
                subst (fabrics.IsEndPort (fabric_of start)) same
                (vertex_is_end (fabric_of start) x.at (node_of a, node_there n x a there, (at_least n x a there).0, (at_least n x a there).1)) in
                let h = has_lids r.origin planned.is_seat (port_at x.at.node port) (node_of a) (record {
                  node_there = node_there n x a there;
                  end_port = end;
                  in_part = joined;
                }) in
                h ∙ ap (λ o. Some (option_map_or (λ y. base_lid_at y port) o 0, option_map_or (λ y. lmc_at y port) o 0)) there

      -- what an agent keeps --------------------------------------------------------------------------

      -- by a request that it answers
      agent_keeps : (n : ℕ) (x : Asked Sends Tells cables counts along is on harmless n) (a : Agent) → agent_at s x.at.node ≡ Some a
          → KeepsHeld plan a (after_answer a x.request x.at.port).agent × KeepsLids a (after_answer a x.request x.at.port).agent
      agent_keeps n x a there =
          let whole = x.for_agent.whole in
          let most = (at_least n x a there).1 in (
            answered_keeps plan a x.request x.at.port (is_agent n x a there) whole most (λ sets taken. carries n x a there sets),
            answered_keeps_lids plan a x.request x.at.port (is_agent n x a there) whole most (λ sets taken. carries n x a there sets)
                (has_planned n x a there),
          )

      -- each agent is there after a delivery, and keeps what it has
      pub agents_keep : (n id : ℕ) (a : Agent) → agent_at s id ≡ Some a
          → (b : Agent) × (agent_at (after_deliver s n).fabric id ≡ Some b) × (KeepsHeld plan a b × KeepsLids a b)
      agents_keep n id a there = elim (asks_or_not Sends Tells cables counts along is on harmless n) [
        | inl nobody ↦ (a, ap (λ (xs : List Agent). slice_get xs id) nobody.agents ∙ there, unchanged)
        | inr x ↦ by_id x (x.at.node == id) refl
      ]
        where
          unchanged : KeepsHeld plan a a × KeepsLids a a
          unchanged = (itself plan a, λ m. refl)

          by_id : (x : Asked Sends Tells cables counts along is on harmless n) → (b : Bool) → (x.at.node == id) ≡ b
              → (b : Agent) × (agent_at (after_deliver s n).fabric id ≡ Some b) × (KeepsHeld plan a b × KeepsLids a b)
          by_id x false other = (
            a,
            ap (λ (xs : List Agent). slice_get xs id) x.agents
                ∙ others_stay s.agents x.at.node id (λ y. (after_answer y x.request x.at.port).agent) (eqb-false _ _ other)
                ∙ there,
            unchanged,
          )
          by_id x true same_is =
              let same : x.at.node ≡ id = eqb-true _ _ same_is in
              let here : agent_at s x.at.node ≡ Some a = ap (slice_get s.agents) same ∙ there in
              let keeps = agent_keeps n x a here in (
                (after_answer a x.request x.at.port).agent,
                ap (slice_get (after_deliver s n).fabric.agents) (sym same)
                    ∙ ap (λ (xs : List Agent). slice_get xs x.at.node) x.agents
                    ∙ changed_at_id s.agents x.at.node a (λ y. (after_answer y x.request x.at.port).agent) here,
                keeps,
              )

      -- where none is, none comes
      pub none_comes : (n id : ℕ) → agent_at s id ≡ None → agent_at (after_deliver s n).fabric id ≡ None
      none_comes n id none = elim (asks_or_not Sends Tells cables counts along is on harmless n) [
        | inl nobody ↦ ap (λ (xs : List Agent). slice_get xs id) nobody.agents ∙ none
        | inr x ↦ by_id x (x.at.node == id) refl
      ]
        where
          by_id : (x : Asked Sends Tells cables counts along is on harmless n) → (b : Bool) → (x.at.node == id) ≡ b
              → agent_at (after_deliver s n).fabric id ≡ None
          by_id x false other =
              ap (λ (xs : List Agent). slice_get xs id) x.agents
              ∙ others_stay s.agents x.at.node id (λ y. (after_answer y x.request x.at.port).agent) (eqb-false _ _ other) ∙ none
          by_id x true same_is =
              let same : x.at.node ≡ id = eqb-true _ _ same_is in
              let here : agent_at s x.at.node ≡ None = ap (slice_get s.agents) same ∙ none in
              let left : with_changed s.agents x.at.node (λ y. (after_answer y x.request x.at.port).agent) ≡ s.agents =
              ap (λ o. option_map_or (λ y. slice_set s.agents x.at.node (after_answer y x.request x.at.port).agent) o s.agents) here in
              ap (λ (xs : List Agent). slice_get xs id) (x.agents ∙ left) ∙ none
