-- Where agents hold the masks of a tree, each adapter gets one copy.
use Rattle.std.proofs.Common.{◌≡◌, ◌↔◌, ◌<◌, ◌≤◌, ◌+◌, ◌*◌, ◌/◌, ◌%◌, ℕ, List, inl, inr, refl, sym, ap, ◌∙◌, subst, arith, true, false, cond, drop}
use Rattle.std.proofs.lemmas.Bool.{and_from, cases_lt, eq-eqb, eqb-true}
use Rattle.std.proofs.lemmas.List.{get_or-drop}
use Rattle.std.proofs.lemmas.Nat.Bits.{bit_at-zero}
use Rattle.std.proofs.lemmas.Option.{same_Some}
use Rattle.std.proofs.Math.ListN.{drop_of_length-le}
use Rattle.std.specs.Int.{bit_at}
use Rattle.std.specs.Prelude.{Contains, is_some}
use Rattle.std.specs.Option.{option_map_or}
use Rattle.fabric_model.specs.declared.cable.NodePort.{NodePort}
use Rattle.smp_bytes.specs.Field.{number_in}
use Rattle.smp_bytes.specs.NodeType.{is_switch}
use Rattle.smp_bytes.specs.declared.node_type.NodeType.{NodeType}
use Rattle.smp_bytes.proofs.FieldLaws.{big_from-alike}
use Rattle.fabric_model.specs.Fabric.{Node}
use Rattle.fabric_model.specs.FabricWalks.{IsJoinedTo}
use Rattle.fact_store.specs.View.{Facts, cells_of}
use Rattle.port_graph.proofs.Lists.{contains_mapped}
use Rattle.reply_facts.specs.Known.{cap_of}
use Rattle.subnet_view.specs.FabricAgreement.{Covers, IsEndPortIn}
use Rattle.subnet_view.specs.Graph.{graph_of}
use Rattle.subnet_view.specs.Reading.{Cells, is_switch_node, is_usable, switches}
use Rattle.subnet_view.proofs.GraphSwitches.{usable_switch}
use Rattle.subnet_view.proofs.PartWires.{IsTold, known_type}
use Rattle.lft_blocks.specs.Rule.{RuleValue}
use Rattle.plan_order.specs.PlanOrder.{positions_by}
use Rattle.multicast_tree.specs.FabricCopies.{IsWholeAt}
use Rattle.multicast_tree.specs.Tree.{InTree, TreePorts, parent_port, position_in, tree_at, tree_of}
use Rattle.multicast_tree.proofs.FabricAdapters.{each_gets_one_copy_in_fabric}
use Rattle.multicast_tree.proofs.FabricCopies.{facts_told}
use Rattle.multicast_tree.proofs.InWords.{tree_law}
use Rattle.plan_steps.specs.MaskSteps.{first_mask, mask_of, masks_data}
use Rattle.plan_steps.proofs.MaskBits.{mask_bit, mask_read, small_mask}
use Rattle.node_agents.specs.Agent.{Agent, IsAgent, node_of, position_count}
use Rattle.fabric_sim.specs.Simulation.{IsSimulation, Simulation, fabric_of}
use Rattle.fabric_sim.proofs.SeenFabrics.{agent_seen, simulations_are_fabrics}
use Rattle.fabric_sim.proofs.TripEnds.{agents_of}
use Rattle.fabric_sim.proofs.TripShapes.{agent_there}
use Rattle.manager_laws.specs.MulticastHeld.{EachGetsOneCopy, HoldsMasks, HoldsTree, group_of, has_port, mask_at}

-- an agent that holds the masks of ports
module _ (a : Agent) (ports : List ℕ) (is : IsAgent a) (held : HoldsMasks ports a) where
  mask_there : (position : ℕ) → position < position_count a.node → mask_at a position ≡ mask_of ports position
  mask_there position inside =
      let xs = drop (64 * position) a.masks in
      big_from-alike 0 2 xs (masks_data (mask_of ports position)) (λ k l h. get_or-drop (64 * position) a.masks k 0 ∙ held position k inside (omega arith))
      ∙ mask_read (mask_of ports position) (small_mask ports position)

  mask_past : (position : ℕ) → position_count a.node ≤ position → mask_at a position ≡ 0
  mask_past position past =
      let long = is.masks in
      ap (number_in first_mask) (drop_of_length-le a.masks (omega (arith, long, past)))

  -- the bit of a port
  bit_there : (p : ℕ) → p / 16 < position_count a.node → (bit_at (mask_at a (p / 16)) (p % 16) ≡ 1) ↔ Contains ports p
  bit_there p inside =
      let bit = mask_bit ports (p / 16) (p % 16) (omega arith) in
      let same : 16 * (p / 16) + p % 16 ≡ p = omega arith in
      let read = mask_there (p / 16) inside in (
        λ b. subst (λ (x : ℕ). Contains ports x) same (bit.0 (sym (ap (λ m. bit_at m (p % 16)) read) ∙ b)),
        λ c. ap (λ m. bit_at m (p % 16)) read ∙ bit.1 (subst (λ (x : ℕ). Contains ports x) (sym same) c),
      )

  port_to : (p : ℕ) → has_port a p ≡ true → Contains ports p
  port_to p e =
      let one = eqb-true (bit_at (mask_at a (p / 16)) (p % 16)) 1 e in
      elim (cases_lt (p / 16) (position_count a.node)) [
        | inl inside ↦ (bit_there p inside).0 one
        | inr past ↦ absurd (let none : bit_at (mask_at a (p / 16)) (p % 16) ≡ 0 = ap (λ m. bit_at m (p % 16)) (mask_past (p / 16) past) ∙ bit_at-zero (p % 16) in
            omega (arith, none, one))
      ]

  port_from : (p : ℕ) → p / 16 < position_count a.node → Contains ports p → has_port a p ≡ true
  port_from p inside c = eq-eqb (bit_at (mask_at a (p / 16)) (p % 16)) 1 ((bit_there p inside).1 c)

module _ (rule : RuleValue) (facts : Facts) (s : Simulation) (origin : NodePort) (is : IsSimulation s)
    (covers : Covers (IsJoinedTo (fabric_of s) origin) (cells_of facts) (fabric_of s))
    (held : HoldsTree (IsJoinedTo (fabric_of s) origin) (tree_of rule (cells_of facts)) s)
  where
    abbrev cells : Cells
    cells = cells_of facts

    abbrev positions : List ℕ
    positions = positions_by rule (cells_of facts)

    told : IsTold (cells_of facts) (fabric_of s) origin
    told = facts_told facts (fabric_of s) origin (simulations_are_fabrics s is) covers

    -- a switch of the part is usable
    usable : (port : NodePort) (node : Node) → IsEndPortIn (IsJoinedTo (fabric_of s) origin) (fabric_of s) port node → is_switch node.kind ≡ true
        → is_usable cells node.guid ≡ true
    usable port node here switch =
        and_from (is_switch_node cells node.guid) (is_some (cap_of cells node.guid)) (known_type told port node here ∙ switch)
        (ap is_some ((covers.tells_end_ports port node here).cap switch))

    -- a port of the tree has a position in the table
    inside_table : (port : NodePort) (node : Node) (a : Agent) (p : ℕ) → IsEndPortIn (IsJoinedTo (fabric_of s) origin) (fabric_of s) port node
        → is_switch node.kind ≡ true → node_of a ≡ node → InTree (tree_of rule cells) node.guid p → p / 16 < position_count a.node
    inside_table port node a p here switch same in_tree =
        let t = (tree_law facts positions node.guid p).0 in_tree in
        let first = t.wire.first in
        let known = same_Some (first.0, first.1) (node.kind, node.ports) (sym first.2 ∙ (covers.tells_end_ports port node here).kind) in
        let upto : p ≤ first.1 = first.4 in
        let count : first.1 ≡ node.ports = ap (λ (r : NodeType × ℕ). r.1) known in
        let own : a.node.ports ≡ node.ports = ap (λ (n : Node). n.ports) same in
        let kind : is_switch a.node.kind ≡ true = ap (λ (n : Node). is_switch n.kind) same ∙ switch in
        let positions_of : position_count a.node ≡ a.node.ports / 16 + 1 = ap (λ b. cond b (a.node.ports / 16 + 1) 0) kind in
        omega (arith, upto, count, own, positions_of)

    whole_at : IsWholeAt (IsJoinedTo (fabric_of s) origin) (tree_of rule cells) (fabric_of s) (group_of s)
    whole_at port node here switch p =
        let (a, there, same) = agent_seen s port.node node here.node_there in
        let good : IsAgent a = agent_there s.agents port.node a (agents_of s.agents is.agents) there in
        let read : group_of s port.node p ≡ has_port a p = ap (λ o. option_map_or (λ (b : Agent). has_port b p) o false) there in
        let parent = parent_port (graph_of cells) (position_in (switches cells) positions) in
        let among = contains_mapped (tree_at cells parent) (switches cells) node.guid (usable_switch facts node.guid (usable port node here switch)) in
        let x : TreePorts = tree_at cells parent node.guid in (
          λ e. (x.ports, among, port_to a x.ports good (held port node here switch a there x among refl) p (sym read ∙ e)),
          λ h.
              let ports = h.0 in
              read
              ∙ port_from a ports good (held port node here switch a there (record { guid = node.guid; ports = ports }) h.1 refl) p
              (inside_table port node a p here switch same h) h.2,
        )

pub each_gets_one_copy : EachGetsOneCopy
each_gets_one_copy rule facts s origin is is_origin covers held sender at receiver from to apart =
    each_gets_one_copy_in_fabric rule facts (fabric_of s) origin (simulations_are_fabrics s is) is_origin covers (group_of s)
    (whole_at rule facts s origin is covers held) sender at receiver from to apart
