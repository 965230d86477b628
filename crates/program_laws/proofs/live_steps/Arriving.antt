-- While agents take the Sets of a step, their tables are in change, and packets that the held tables deliver arrive.
use Rattle.std.proofs.Common.{◌≡◌, ◌⊎◌, inl, inr, ℕ, ◌+◌, ◌*◌, ◌<◌, ◌≤◌, Bool, true, false, List, sym, ap, ◌∙◌, subst}
use Rattle.std.proofs.lemmas.Bool.{eq-eqb}
use Rattle.std.proofs.lemmas.Option.{same_Some}
use Rattle.std.specs.Prelude.{MatchBool, Some, Contains, not, ◌==◌, ◌||◌}
use Rattle.std.specs.Option.{option_map_or}
use Rattle.fabric_model.specs.declared.cable.NodePort.{NodePort}
use Rattle.smp_bytes.specs.NodeType as types
use Rattle.smp_bytes.specs.LidRange as lid_ranges
use Rattle.fabric_model.specs.Fabric as fabrics
use Rattle.fabric_model.specs.Fabric.{Fabric, Node}
use Rattle.fabric_model.specs.FabricWalks.{IsJoinedTo}
use Rattle.node_agents.specs.Agent.{Agent, base_lid_at, entry_at, is_switch, lmc_at, range_at}
use Rattle.node_agents.specs.PortInfo.{has_lid}
use Rattle.fact_store.specs.View.{Facts, cells_of}
use Rattle.subnet_view.specs.FabricAgreement.{IsEndPortIn, Part}
use Rattle.fabric_sim.specs.Simulation.{Simulation, across, fabric_of, port_count}
use Rattle.fabric_sim.proofs.SeenFabrics.{agent_seen}
use Rattle.fabric_sim.proofs.TripEnds.{along_itself, few_ports}
use Rattle.lid_assign.specs.Lids.{range_of}
use Rattle.plan_tables.specs.Plan.{PlanValue, block_at, switches_of}
use Rattle.held_tables.specs.Held.{HeldPlan}
use Rattle.held_tables.specs.Tables as tables
use Rattle.next_tables.specs.NextTables.{StepRuleValue, by_order, next_tables, settled_first}
use Rattle.next_tables.specs.SwitchPositions.{position_at}
use Rattle.next_tables.specs.ChangingFabric.{IsBeingWritten, IsInChange, StandsStill}
use Rattle.next_tables.proofs.BeingWritten.{written_tables_are_in_change}
use Rattle.next_tables.proofs.ChangingFabric.{packets_arrive_while_tables_change}
use Rattle.next_tables.proofs.by_order.ChangingFabric.{packets_arrive_by_order}
use Rattle.next_tables.proofs.by_order.Lost.{rule_is_tried}
use Rattle.next_tables.proofs.by_order.OrderedTables.{ordered_tables_are_next}
use Rattle.next_tables.proofs.by_order.Round.{all_follow_the_rule}
use Rattle.manager_laws.specs.Scene.{Event, Scene, after_events}
use Rattle.manager_laws.proofs.Alike.{nodes_along}
use Rattle.manager_laws.proofs.Answers.{Continues, begun}
use Rattle.program_laws.specs.LiveStep.{IsLiveStep, IsMoment, KeptLinesAreSteps, PacketsArriveInLiveSteps, PacketsArriveInOrderedLiveSteps, at_first}
use Rattle.program_laws.proofs.live_steps.Scenes.{Now, at_moment, first_now, goes_on}

-- an end port's number is one that has LIDs
lid_there : (kind local : Bool) (port ports : ℕ) → kind ≡ local → MatchBool kind (port ≡ 0) ((1 ≤ port) × (port ≤ ports)) → (not local || port == 0) ≡ true
lid_there true local port ports e zero_is = ap (λ (t : Bool). not t || port == 0) (sym e) ∙ eq-eqb port 0 zero_is
lid_there false local port ports e within = ap (λ (t : Bool). not t || port == 0) (sym e)

module _ (facts : Facts) (rule : StepRuleValue) (held goal : HeldPlan) (plan : PlanValue) (n i : ℕ) (quiet : Scene) (earlier events : List Event)
    (origin : NodePort) (step : IsLiveStep facts rule held goal plan n quiet earlier events origin) (less : i < 64)
    (one : 1 ≤ 64 * n + i) (low : 64 * n + i ≤ step.top) where
  abbrev start : Simulation
  start = quiet.fabric

  abbrev first : Scene
  first = after_events earlier quiet

  abbrev before : Fabric
  before = at_first quiet earlier

  abbrev part : Part
  part = IsJoinedTo (at_first quiet earlier) origin

  abbrev next : HeldPlan
  next = next_tables (cells_of facts) rule held goal

  counts : (id : ℕ) → port_count quiet.fabric id ≤ 254
  counts = few_ports quiet.fabric (along_itself quiet.fabric step.is_quiet.fabric).agents

  begins : Continues quiet.fabric (after_events earlier quiet)
  begins =
      goes_on quiet.fabric step.is_quiet.fabric.cables counts earlier quiet (begun quiet step.is_quiet) step.earlier_can

  -- at a moment of the step
  module _ (x : Scene) (c : Continues quiet.fabric x)
      (now : Now quiet.fabric step.is_quiet.fabric.cables counts plan step.whole (after_events earlier quiet).fabric x.fabric) where
    range_stays : (port : NodePort) (node : Node) → IsEndPortIn part before port node
        → fabrics.range_at (fabric_of x.fabric) port ≡ fabrics.range_at before port
    range_stays port node end =
        let (a, there, seen) = agent_seen (after_events earlier quiet).fabric port.node node end.node_there in
        let (b, there_now, is) = now port.node a there in
        let (other, other_there, its_number) = end.end_port in
        let number : fabrics.IsEndPortNumber node port.port =
        subst (λ (m : Node). fabrics.IsEndPortNumber m port.port) (same_Some other node (sym other_there ∙ end.node_there)) its_number in
        let was : fabrics.range_at before port ≡ range_at a port.port =
        ap (λ o. (option_map_or (λ y. base_lid_at y port.port) o 0, option_map_or (λ y. lmc_at y port.port) o 0)) there in
        let is_now : fabrics.range_at (fabric_of x.fabric) port ≡ range_at b port.port =
        ap (λ o. (option_map_or (λ y. base_lid_at y port.port) o 0, option_map_or (λ y. lmc_at y port.port) o 0)) there_now in
        let can_have : has_lid a port.port ≡ true =
        lid_there (types.is_switch node.kind) (is_switch a) port.port node.ports (ap (λ (m : Node). types.is_switch m.kind) (sym seen)) number in
        let given : range_of plan.given (record { node = a.node.guid; port = port.port }) ≡ Some (range_at a port.port) =
        ap (λ g. range_of plan.given (record { node = g; port = port.port })) (ap (λ (m : Node). m.guid) seen) ∙ step.lids port node end
        ∙ ap (λ r. Some r) was in
        is_now ∙ is.ranges port.port can_have given ∙ sym was

    still : (lid : ℕ) → StandsStill part lid before (fabric_of x.fabric)
    still lid =
        record {
          nodes = sym (nodes_along quiet.fabric x.fabric c.fabric.along) ∙ nodes_along quiet.fabric (after_events earlier quiet).fabric begins.fabric.along;
          cables = λ p. ap (λ ps. across ps p) (c.fabric.along.peers ∙ sym begins.fabric.along.peers);
          owners = λ port node end. ap (λ (r : ℕ × ℕ). lid_ranges.has_lid r.0 r.1 lid) (range_stays port node end);
        }

    tops : (port : NodePort) (node : Node) → IsEndPortIn part before port node → types.is_switch node.kind ≡ true
        → ((fabric_of x.fabric).top port.node ≡ before.top port.node) ⊎ ((fabric_of x.fabric).top port.node ≡ tables.top_of next node.guid)
    tops port node end kind =
        let (a, there, seen) = agent_seen (after_events earlier quiet).fabric port.node node end.node_there in
        let (b, there_now, is) = now port.node a there in
        let top_was = ap (λ o. option_map_or (λ (y : Agent). y.top) o 0) there in
        let top_now = ap (λ o. option_map_or (λ (y : Agent). y.top) o 0) there_now in
        elim (is.top step.top (subst (Contains (switches_of plan)) (sym (ap (λ (m : Node). m.guid) seen)) (step.listed port node end kind)) step.is_top) [
          | inl e ↦ inl (top_now ∙ e ∙ sym top_was)
          | inr e ↦ inr (top_now ∙ e ∙ sym (step.tops port node end kind))
        ]

    entries : (port : NodePort) (node : Node) → IsEndPortIn part before port node → types.is_switch node.kind ≡ true
        → ((fabric_of x.fabric).entry port.node (64 * n + i) ≡ before.entry port.node (64 * n + i))
        ⊎ ((fabric_of x.fabric).entry port.node (64 * n + i) ≡ tables.entry_of next node.guid (64 * n + i))
    entries port node end kind =
        let (a, there, seen) = agent_seen (after_events earlier quiet).fabric port.node node end.node_there in
        let (b, there_now, is) = now port.node a there in
        let (block, is_block, says) = step.blocks port node end kind in
        let entry_was = ap (λ o. option_map_or (λ (y : Agent). entry_at y (64 * n + i)) o 255) there in
        let entry_now = ap (λ o. option_map_or (λ (y : Agent). entry_at y (64 * n + i)) o 255) there_now in
        elim (is.entries n block (ap (λ g. block_at plan g n) (ap (λ (m : Node). m.guid) seen) ∙ is_block) i less) [
          | inl e ↦ inl (entry_now ∙ e ∙ sym entry_was)
          | inr e ↦ inr (entry_now ∙ same_Some _ _ (sym e ∙ says i less one low))
        ]

    being_written : IsBeingWritten part next (64 * n + i) before (fabric_of x.fabric)
    being_written = record { still = still (64 * n + i); tops = tops; entries = entries }

    in_change : IsInChange part (cells_of facts) held next (64 * n + i) before (fabric_of x.fabric)
    in_change = written_tables_are_in_change facts rule held goal (64 * n + i) before (fabric_of x.fabric) origin step.seen being_written

  pub changes : (f : Fabric) → IsMoment events (after_events earlier quiet) f → IsInChange part (cells_of facts) held next (64 * n + i) before f
  changes f moment =
      let found = at_moment quiet.fabric step.is_quiet.fabric.cables counts plan step.whole (after_events earlier quiet).fabric events
      (after_events earlier quiet) begins step.events_can step.carry (λ id a there. (a, there, first_now plan a)) f moment in
      subst (λ (g : Fabric). IsInChange part (cells_of facts) held next (64 * n + i) before g) (sym found.is)
      (in_change found.scene found.continues found.now)

pub packets_arrive_in_live_steps : PacketsArriveInLiveSteps
packets_arrive_in_live_steps facts held goal plan line n quiet earlier events origin step (one, low, (i, less, is_lid)) kept fabrics moments source node end
    brought =
    packets_arrive_while_tables_change facts held goal line (at_first quiet earlier) origin step.end_port step.seen one kept fabrics
    (λ k. subst (λ (m : ℕ). IsInChange (IsJoinedTo (at_first quiet earlier) origin) (cells_of facts) held
    (next_tables (cells_of facts) settled_first held goal) m (at_first quiet earlier) (fabrics k)) (sym is_lid)
    (changes facts settled_first held goal plan n i quiet earlier events origin step less
    (subst (λ (m : ℕ). 1 ≤ m) is_lid one) (subst (λ (m : ℕ). m ≤ step.top) is_lid low) (fabrics k) (moments k)))
    source node end brought

pub packets_arrive_in_ordered_live_steps : PacketsArriveInOrderedLiveSteps
packets_arrive_in_ordered_live_steps facts positions held goal plan line n quiet earlier events origin step (one, low, (i, less, is_lid)) line_step fabrics
    moments source node end brought =
    packets_arrive_by_order facts (position_at positions) held goal (next_tables (cells_of facts) (by_order positions) held goal) line
    (at_first quiet earlier) origin step.end_port step.seen one line_step fabrics
    (λ k. subst (λ (m : ℕ). IsInChange (IsJoinedTo (at_first quiet earlier) origin) (cells_of facts) held
    (next_tables (cells_of facts) (by_order positions) held goal) m (at_first quiet earlier) (fabrics k)) (sym is_lid)
    (changes facts (by_order positions) held goal plan n i quiet earlier events origin step less
    (subst (λ (m : ℕ). 1 ≤ m) is_lid one) (subst (λ (m : ℕ). m ≤ step.top) is_lid low) (fabrics k) (moments k)))
    source node end brought

pub kept_lines_are_steps : KeptLinesAreSteps
kept_lines_are_steps facts positions held goal line order kept held_right goal_right =
    let next = next_tables (cells_of facts) (by_order positions) held goal in
    record {
      order = order;
      owners = kept.in_plan ∙ sym kept.in_held;
      held_right = held_right;
      goal_right = goal_right;
      is_next = rule_is_tried (cells_of facts) (position_at positions) held goal next line
          (all_follow_the_rule (cells_of facts) (position_at positions) held goal next line (ordered_tables_are_next facts positions held goal) kept);
    }
