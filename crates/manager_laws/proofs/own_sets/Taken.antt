-- The agents take the Sets of the steps that count.
use Rattle.std.proofs.Common.{◌≡◌, ℕ, ◌+◌, ◌*◌, ◌/◌, ◌%◌, ◌<◌, ◌≤◌, true, cond, min, List, refl, sym, ap, ◌∙◌, subst, arith}
use Rattle.std.proofs.Math.Nat.{min-le_left, mul-div_cancel_left}
use Rattle.std.proofs.lemmas.Bool.{and_from, and_parts, cond_both, eq-eqb, eqb-true, le-leb, lt-ltb}
use Rattle.std.proofs.lemmas.Option.{same_Some}
use Rattle.std.specs.Prelude.{Contains, Option, Some, None, filter, ◌==◌, ◌&&◌}
use Rattle.fabric_model.specs.declared.cable.NodePort.{NodePort}
use Rattle.fabric_model.specs.DirectedWalk.{directed_end}
use Rattle.fabric_model.specs.Fabric.{Node, IsNodeAt}
use Rattle.smp_bytes.specs.Header.{set, done, port_info, switch_info, linear_forwarding_table}
use Rattle.smp_bytes.specs.Field.{bits_in, number_in}
use Rattle.smp_bytes.specs.NodeType as types
use Rattle.smp_bytes.specs.Packet.{attribute_modifier, method, status}
use Rattle.attr_codec.specs.PortInfo.{lmc as lmc_bits, port_state, range_in}
use Rattle.attr_codec.specs.SwitchInfo.{linear_fdb_top}
use Rattle.reply_facts.specs.Report.{Sightings, guid_port}
use Rattle.fact_store.specs.View.{Facts, cells_of}
use Rattle.node_agents.specs.Agent.{Agent, IsAgent, is_switch, node_of, position_count as position_count_at}
use Rattle.node_agents.specs.MftBlock.{has_masks, position_in}
use Rattle.node_agents.specs.Answers.{after_answer}
use Rattle.node_agents.specs.AnswerLaws.{IsPacket}
use Rattle.node_agents.specs.PortInfo.{are_lids_taken, max_lmc, port_meant}
use Rattle.fabric_sim.specs.Simulation.{Simulation, agent_at, fabric_of}
use Rattle.fabric_sim.proofs.TripShapes.{agent_there}
use Rattle.subnet_view.specs.Reading.{port_count_of, switches}
use Rattle.subnet_view.proofs.Apart.{contains-from_map}
use Rattle.subnet_view.proofs.Members.{contains_none, contains-from_filter}
use Rattle.lid_assign.specs.Claims.{room}
use Rattle.lid_assign.specs.Lids.{IsNoRoom, lids, range_of, top_of}
use Rattle.lid_assign.proofs.FreeLids.{room_at_most}
use Rattle.lft_blocks.specs.Entries.{block_count}
use Rattle.lft_blocks.specs.Plan.{SwitchTable, plan_of, switches_of}
use Rattle.lft_blocks.specs.Rule.{RuleValue}
use Rattle.sweep.specs.Sweep.{Sweep}
use Rattle.plan_steps.specs.LidSteps.{own_lid}
use Rattle.plan_steps.specs.MaskSteps.{position_count}
use Rattle.plan_steps.specs.Phase.{Phase}
use Rattle.plan_steps.specs.PlannedTree.{planned_tree}
use Rattle.plan_steps.specs.Tree.{TreePorts}
use Rattle.plan_steps.proofs.Trees.{planned_among}
use Rattle.sm_manager.specs.Writing.{phases_by}
use Rattle.manager_laws.specs.Managing.{Managing, ManagerEvent, Begin, after_manager_event, after_manager_events}
use Rattle.manager_laws.specs.OwnSetsTaken.{OwnSetsAreTaken}
use Rattle.manager_laws.specs.WritingPings.{WritesItsSweep}
use Rattle.manager_laws.specs.Sets.{IsOwnSet}
use Rattle.manager_laws.specs.Sweeping.{Sweeping, after_sweep_events}
use Rattle.manager_laws.specs.Truth.{HasNode}
use Rattle.manager_laws.specs.Written.{at_end, at_writing, plan_at}
use Rattle.manager_laws.proofs.AgentSets.{AsksFor}
use Rattle.manager_laws.proofs.Arrive.{anything, anything_stays}
use Rattle.manager_laws.proofs.AskedSets.{WasAsked}
use Rattle.manager_laws.proofs.Done.{true_told}
use Rattle.manager_laws.proofs.Follows.{holds_all}
use Rattle.manager_laws.proofs.Held as held
use Rattle.manager_laws.proofs.OneSweep.{FollowsOne, first_begins, first_of, one_sweep}
use Rattle.manager_laws.proofs.Planned.{has_table}
use Rattle.manager_laws.proofs.Steps.{IsOf, StepSent}
use Rattle.manager_laws.proofs.Sweeps.{told_in}
use Rattle.manager_laws.proofs.Swept.{accepted_facts_are_true}
use Rattle.manager_laws.proofs.Writings.{masks_at, writing_good}
use Rattle.manager_laws.proofs.MaskSteps.{IsMaskStep}
use Rattle.manager_laws.proofs.WritingTaken.{IsGood, means_own_port, node_of_agent}
use Rattle.manager_laws.proofs.own_sets.AgentTakes.{takes_block, takes_lids, takes_masks, takes_top}
use Rattle.manager_laws.proofs.own_sets.Counted.{CountedStep, SetsLids, SetsMasks, SetsTop, SetsBlock, counted_step}
use Rattle.manager_laws.proofs.own_sets.KnownTables.{HasTable, table_known}
use Rattle.manager_laws.proofs.own_sets.Rooms.{few_lids, may_have_range, one_at_zero, top_in_room}

-- positions ---------------------------------------------------------------------------------------

position_named : (modifier position : ℕ) → modifier ≡ 0x10000000 * position → position_in modifier ≡ position
position_named modifier position is = ap position_in is ∙ mul-div_cancel_left position {n = 0x10000000} (omega arith)

position_within : (position known ports : ℕ) → known ≡ ports → position < min (known / 16) 15 + 1 → position < ports / 16 + 1
position_within position known ports same less =
    let least = min-le_left (known / 16) 15 in let quotient = ap (λ n. n / 16) same in omega (arith, least, quotient, less)

has_position : (a : Agent) → is_switch a ≡ true → (modifier position : ℕ) → modifier ≡ 0x10000000 * position → position < a.node.ports / 16 + 1
    → has_masks a modifier ≡ true
has_position a switch modifier position is less =
    let named = position_named modifier position is in
    let count : position_count_at a.node ≡ a.node.ports / 16 + 1 = ap (λ b. cond b (a.node.ports / 16 + 1) 0) switch in
    and_from _ _ (lt-ltb (position_in modifier) (position_count_at a.node) (omega (arith, named, count, less)))
    (eq-eqb (modifier % 512) 0 (ap (λ n. n % 512) is ∙ omega arith))

-- one Set ------------------------------------------------------------------------------------------

module _ (start : Simulation) (seat : NodePort) (rule : RuleValue) (lmc : ℕ) (few_lmc : lmc < 8) (facts : Facts)
    (has_room : ¬ (IsNoRoom lmc (cells_of facts)))
    (known : (guid id : ℕ) (node : Node) → HasNode (fabric_of start) guid id node → Contains (switches (cells_of facts)) guid → HasTable (cells_of facts) node)
  where
    -- the switches of a plan are usable ones
    from_switches : (guid : ℕ) → Contains (switches_of (plan_of rule lmc (cells_of facts))) guid → Contains (switches (cells_of facts)) guid
    from_switches guid there =
        let (t, in_tables, named) = contains-from_map (λ (t : SwitchTable). t.guid) (plan_of rule lmc (cells_of facts)).tables guid there in
        let (s, among, made) = contains-from_map _ (switches (cells_of facts)) t in_tables in
        subst (Contains (switches (cells_of facts))) (ap (λ (t : SwitchTable). t.guid) made ∙ named) among

    module _ (x : StepSent) (good : IsGood start seat (plan_of rule lmc (cells_of facts)) x) (counts : x.counts ≡ true)
        (sweep : Sweep) (tree : List TreePorts) (kind : CountedStep (cells_of facts) sweep tree (plan_of rule lmc (cells_of facts)) x.step)
        (masked : IsMaskStep (cells_of facts) sweep tree x.step → Contains (switches (cells_of facts)) good.node.guid
        × (position : ℕ) × (position < position_count (cells_of facts) good.node.guid) × (x.step.modifier ≡ 0x10000000 * position))
        (at : NodePort)
        (leads : directed_end (fabric_of start) seat x.step.path ≡ Some at)
        (a : Agent) (is : IsAgent a) (node : (n : Node) → IsNodeAt (fabric_of start) at.node n → n ≡ node_of a)
        (packet : List ℕ) (whole : IsPacket packet) (asks : AsksFor x.step packet) where
      ends : good.end ≡ at
      ends = same_Some _ _ (sym good.leads ∙ leads)

      there : IsNodeAt (fabric_of start) at.node good.node
      there = subst (λ (e : NodePort). IsNodeAt (fabric_of start) e.node good.node) ends good.there

      same : good.node ≡ node_of a
      same = node good.node there

      -- the agent's own table
      record HasRoom : Type 0 where
        pub switch : is_switch a ≡ true
        pub long : room (cells_of facts) ≤ a.node.cap
        pub ports : port_count_of (cells_of facts) good.node.guid ≡ a.node.ports

      table_at : Contains (switches (cells_of facts)) good.node.guid → HasRoom
      table_at among =
          let t = known good.node.guid at.node good.node (record { there = there; named = refl }) among in
          record {
            switch = ap (λ (n : Node). types.is_switch n.kind) (sym same) ∙ t.switch;
            long = subst (λ (n : Node). room (cells_of facts) ≤ n.cap) same t.long;
            ports = t.ports ∙ ap (λ (n : Node). n.ports) same;
          }

      lids_taken : x.step.attribute ≡ port_info → bits_in port_state x.step.payload ≡ 0 → status (after_answer a packet at.port).packet ≡ done
      lids_taken e still =
          takes_lids a packet at.port is whole asks.method (asks.attribute ∙ e) x.step.modifier
          (ap (λ m. port_meant a m at.port) asks.modifier ∙ means_own_port good.node a same x.step.modifier at.port port_is)
          (ap (are_lids_taken (max_lmc a x.step.modifier)) asks.payload ∙ and_from _ _ (le-leb _ _ most)
          (may_have_range lmc facts has_room (record { node = good.node.guid; port = x.step.modifier }) (range_in x.step.payload) has_range))
          (ap (bits_in port_state) asks.payload ∙ still)
        where
          port_is : x.step.modifier ≡ guid_port good.node.kind at.port
          port_is = good.port counts e ∙ ap (λ (q : NodePort). guid_port good.node.kind q.port) ends

          has_range : range_of (lids lmc (cells_of facts)) (record { node = good.node.guid; port = x.step.modifier }) ≡ Some (range_in x.step.payload)
          has_range = (good.of_plan counts).lids e

          -- a switch has one LID
          most : bits_in lmc_bits x.step.payload ≤ max_lmc a x.step.modifier
          most =
              cond_both (is_switch a && x.step.modifier == 0) 0 7 (λ n. bits_in lmc_bits x.step.payload ≤ n)
              (λ zero. let none = one_at_zero lmc facts has_room (record { node = good.node.guid; port = x.step.modifier }) (range_in x.step.payload) has_range
              (eqb-true _ _ (and_parts (is_switch a) (x.step.modifier == 0) zero).1) in omega (arith, none))
              (λ _. few_lids lmc facts has_room few_lmc (record { node = good.node.guid; port = x.step.modifier }) (range_in x.step.payload) has_range)

      top_taken : x.step.attribute ≡ switch_info → status (after_answer a packet at.port).packet ≡ done
      top_taken e =
          let (is_top, among) = (good.of_plan counts).top e in
          let table = table_at (from_switches good.node.guid among) in
          let long = table.long in
          let less = top_in_room lmc facts has_room (number_in linear_fdb_top x.step.payload) is_top in
          let top = ap (number_in linear_fdb_top) asks.payload in
          takes_top a packet at.port is whole asks.method (asks.attribute ∙ e) table.switch (omega (arith, long, less, top))

      block_taken : x.step.attribute ≡ linear_forwarding_table → x.step.modifier < block_count (top_of (lids lmc (cells_of facts)))
          → status (after_answer a packet at.port).packet ≡ done
      block_taken e less =
          let table = table_at (has_table rule lmc facts good.node.guid x.step.modifier x.step.payload ((good.of_plan counts).block e)) in
          by_top table (top_of (lids lmc (cells_of facts))) refl less
        where
          by_top : HasRoom → (m : Option ℕ) → top_of (lids lmc (cells_of facts)) ≡ m → x.step.modifier < block_count m
              → status (after_answer a packet at.port).packet ≡ done
          by_top table None is_top h = absurd (omega (arith, h))
          by_top table (Some top) is_top h =
              let below = top_in_room lmc facts has_room top is_top in
              let most = room_at_most (cells_of facts) in
              let long = table.long in
              let number = asks.modifier in
              takes_block a packet at.port is whole asks.method (asks.attribute ∙ e) table.switch
              (omega (arith, h, below, most, number)) (omega (arith, h, below, long, number))

      masks_taken : IsMaskStep (cells_of facts) sweep tree x.step → status (after_answer a packet at.port).packet ≡ done
      masks_taken m =
          let (among, position, inside, modifier_is) = masked m in
          let table = table_at among in
          let number = asks.modifier ∙ modifier_is in
          let within = position_within position (port_count_of (cells_of facts) good.node.guid) a.node.ports table.ports inside in
          takes_masks a packet at.port is whole asks.method (asks.attribute ∙ m.attribute_is) table.switch
          (has_position a table.switch (number_in attribute_modifier packet) position number within)

      pub set_taken : status (after_answer a packet at.port).packet ≡ done
      set_taken = by_kind kind
        where
          by_kind : CountedStep (cells_of facts) sweep tree (plan_of rule lmc (cells_of facts)) x.step → status (after_answer a packet at.port).packet ≡ done
          by_kind (SetsLids e still) = lids_taken e still
          by_kind (SetsTop e) = top_taken e
          by_kind (SetsBlock e less) = block_taken e less
          by_kind (SetsMasks m) = masks_taken m

-- a run ---------------------------------------------------------------------------------------------

module _ (w : Managing) (before between after : List ManagerEvent) (writes : WritesItsSweep w before between after) (sweep : Sweep)
    (sweep_is : (at_writing w before between).manager.sweep ≡ Some sweep) where
  -- all that is known at the writing was told by one sweep
  one : FollowsOne anything w.scene w.seat (at_writing w before between)
  one =
      one_sweep w before between after writes.run writes.knew_nothing writes.alone anything tt (anything_stays before w)
      (anything_stays between (after_manager_event (after_manager_events before w) Begin))

  first : Sweeping
  first = first_of w.scene w.seat one.at one.keeps

  told : Sightings
  told = told_in (after_sweep_events one.events (first_of w.scene w.seat one.at one.keeps)).reports

  known : (guid id : ℕ) (node : Node) → HasNode (fabric_of w.scene.fabric) guid id node
      → Contains (switches (cells_of (at_writing w before between).manager.store)) guid → HasTable (cells_of (at_writing w before between).manager.store) node
  unfolding told
  known guid id node has =
      subst (λ cells. Contains (switches cells) guid → HasTable cells node)
      (sym (holds_all (at_writing w before between) (after_sweep_events one.events (first_of w.scene w.seat one.at one.keeps)) one.follows))
      (table_known (fabric_of w.scene.fabric) writes.run.starts.distinct told
      (true_told (fabric_of w.scene.fabric) (after_sweep_events one.events (first_of w.scene w.seat one.at one.keeps)).reports
      (accepted_facts_are_true (first_of w.scene w.seat one.at one.keeps) one.at 1 one.events
      (first_begins w writes.run.starts one.at one.few one.keeps) one.can_be))
      guid id node has)

  -- a step that counts
  pub counted_taken : (x : StepSent) → x.counts ≡ true
      → IsOf (phases_by (at_writing w before between).manager (Some sweep)) x.counts x.step
      → (at : NodePort) → directed_end (fabric_of w.scene.fabric) w.seat x.step.path ≡ Some at
      → (a : Agent) → IsAgent a → ((n : Node) → IsNodeAt (fabric_of w.scene.fabric) at.node n → n ≡ node_of a)
      → (packet : List ℕ) → IsPacket packet → AsksFor x.step packet → status (after_answer a packet at.port).packet ≡ done
  counted_taken x counts is at leads a agent node packet whole asks =
      let m = (at_writing w before between).manager in
      let lmc = (held.swept_before w before between after writes.run).fair.side.lmc in
      let may = held.may w before between after writes.run sweep sweep_is in
      let good = writing_good w.scene.fabric w.seat m may lmc sweep (held.swept w before between after writes.run sweep sweep_is) x is in
      let tree = planned_tree m.planning (cells_of m.store) in
      let kind = counted_step sweep (cells_of m.store) tree (own_lid (cells_of m.store) (plan_at (at_writing w before between)).given.ports m.standing.guid m.port)
      (plan_at (at_writing w before between)) x.step
      (subst (λ b. IsOf (phases_by m (Some sweep)) b x.step) counts is) in
      set_taken w.scene.fabric w.seat m.planning.rule m.planning.lmc lmc m.store may.has_room known x good counts sweep tree kind
      (λ k. let named = masks_at w.scene.fabric w.seat m may lmc sweep (held.swept w before between after writes.run sweep sweep_is) x is k.switch.guid k.path in
      subst (λ g. Contains (switches (cells_of m.store)) g × (position : ℕ) × (position < position_count (cells_of m.store) g)
      × (x.step.modifier ≡ 0x10000000 * position)) (sym named) (planned_among m.planning (cells_of m.store) k.switch k.among, k.position, k.there, k.modifier_is))
      at leads a agent node packet whole asks

  -- so the answer to its Set says so
  pub answer_taken : (x : StepSent) → x.counts ≡ true
      → IsOf (phases_by (at_writing w before between).manager (Some sweep)) x.counts x.step
      → (answer : List ℕ) → WasAsked w.scene.fabric w.seat x answer → status answer ≡ done
  answer_taken x counts is answer asked =
      asked.status_is
      ∙ counted_taken x counts is asked.at asked.leads asked.agent asked.is asked.node asked.request asked.whole asked.asks

  own_taken : (at : NodePort) (a : Agent) (packet : List ℕ) → agent_at (at_end w before between after).scene.fabric at.node ≡ Some a → IsPacket packet
      → number_in method packet ≡ set
      → IsOwnSet (fabric_of w.scene.fabric) w.seat (filter (λ p. p.counts) (phases_by (at_writing w before between).manager (Some sweep))) at packet
      → status (after_answer a packet at.port).packet ≡ done
  own_taken at a packet there whole sets own =
      let m = (at_writing w before between).manager in
      let along = held.at_end_along w before between after writes.run sweep sweep_is in
      let among = contains-from_filter (λ (p : Phase). p.counts) (phases_by m (Some sweep)) own.phase own.there in
      counted_taken (record { number = 0; counts = true; step = own.step }) refl
      (record { phase = own.phase; there = among.0; counts_is = among.1; step = own.in_phase }) at own.leads a
      (agent_there (at_end w before between after).scene.fabric.agents at.node a along.agents there)
      (λ n is. node_of_agent w.scene.fabric (at_end w before between after).scene.fabric along at.node n a is there) packet whole
      (record { method = sets; attribute = own.attribute; modifier = own.modifier; payload = own.payload })

pub own_sets_are_taken : OwnSetsAreTaken
own_sets_are_taken w before between after at a packet writes there whole sets own = by_sweep (at_writing w before between).manager.sweep refl own
  where
    by_sweep : (o : Option Sweep) → (at_writing w before between).manager.sweep ≡ o
        → IsOwnSet (fabric_of w.scene.fabric) w.seat (filter (λ p. p.counts) (phases_by (at_writing w before between).manager o)) at packet
        → status (after_answer a packet at.port).packet ≡ done
    by_sweep None e own = absurd (contains_none own.phase own.there)
    by_sweep (Some sweep) e own = own_taken w before between after writes sweep e at a packet there whole sets own
