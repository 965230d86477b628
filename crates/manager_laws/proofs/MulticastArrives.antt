-- Once a manager's tree was taken, the part that is joined to its seat holds the tree.
use Rattle.std.proofs.Common.{◌≡◌, ◌≤◌, ◌<◌, ◌+◌, ◌/◌, ℕ, List, [], sym, ap, ◌∙◌, subst, arith, true, cond, min}
use Rattle.std.proofs.lemmas.Option.{same_Some}
use Rattle.std.specs.Prelude.{Contains}
use Rattle.std.specs.Option.{option_map_or}
use Rattle.fabric_model.specs.Fabric.{Node}
use Rattle.fabric_model.specs.FabricWalks.{IsJoinedTo}
use Rattle.fabric_model.proofs.FabricWalks.{switch_number, type_at}
use Rattle.smp_bytes.specs.NodeType.{is_switch}
use Rattle.smp_bytes.specs.declared.node_type.NodeType.{NodeType}
use Rattle.fact_store.specs.View.{Facts, cells_of}
use Rattle.subnet_view.specs.EndPort.{IsEndPort}
use Rattle.subnet_view.specs.FabricAgreement.{AgreesOn}
use Rattle.subnet_view.specs.Reading.{port_count_of}
use Rattle.subnet_view.proofs.Covered.{covers}
use Rattle.multicast_tree.specs.Tree.{TreePorts, tree_of}
use Rattle.plan_steps.specs.MaskSteps as steps
use Rattle.plan_steps.specs.MaskSteps.{mask_of, masks_data}
use Rattle.node_agents.specs.Agent.{node_of, position_count}
use Rattle.fabric_sim.specs.Simulation.{IsSimulation, Simulation, fabric_of}
use Rattle.fabric_sim.proofs.SeenFabrics.{agent_seen, simulations_are_fabrics}
use Rattle.sweep.specs.Sweep.{IsReached}
use Rattle.manager_laws.specs.Managing.{Managing, ManagerEvent}
use Rattle.manager_laws.specs.MulticastArrives.{EachGetsOneCopyOnceTaken, WritesTree}
use Rattle.manager_laws.specs.MulticastHeld.{HoldsTree}
use Rattle.manager_laws.specs.TreeTaken.{own_tree}
use Rattle.manager_laws.specs.Written.{at_end, at_writing}
use Rattle.manager_laws.proofs.Arrive.{known_agrees, reached_known, seat_is_end}
use Rattle.manager_laws.proofs.Held.{at_end_is}
use Rattle.manager_laws.proofs.MulticastHeld.{each_gets_one_copy}
use Rattle.manager_laws.proofs.Planned.{known_end}
use Rattle.manager_laws.proofs.TreeTaken.{taken_trees_are_held}

-- positions of a switch with at most 254 ports
inside_of : (ports position : ℕ) → ports ≤ 254 → position < ports / 16 + 1 → position < min (ports / 16) 15 + 1
inside_of ports position few less = omega arith

module _ (w : Managing) (before between after : List ManagerEvent) (written : WritesTree w before between after) where
  abbrev now : Simulation
  now = (at_end w before between after).scene.fabric

  abbrev facts : Facts
  facts = (at_writing w before between).manager.store

  agrees : AgreesOn (IsJoinedTo (fabric_of (at_end w before between after).scene.fabric) w.seat)
      (cells_of (at_writing w before between).manager.store)
      (fabric_of (at_end w before between after).scene.fabric)
  agrees = known_agrees w before between after written.planned

  is_simulation : IsSimulation (at_end w before between after).scene.fabric
  is_simulation = at_end_is w before between after written.planned.writes.run written.planned.sweep written.planned.is_last

  tree_is : own_tree (at_writing w before between).manager
      ≡ tree_of (at_writing w before between).manager.planning.rule (cells_of (at_writing w before between).manager.store)
  tree_is =
      ap (λ b. cond b (tree_of (at_writing w before between).manager.planning.rule (cells_of (at_writing w before between).manager.store)) [])
      written.asked

  holds_tree : HoldsTree (IsJoinedTo (fabric_of now) w.seat) (tree_of (at_writing w before between).manager.planning.rule (cells_of facts)) now
  holds_tree port node here switch a there x among guid position i inside less =
      let tells = agrees.tells_end_ports port node here in
      let at_zero = switch_number (fabric_of now) port here.end_port (type_at (fabric_of now) port.node node here.node_there ∙ switch) in
      let end = known_end (IsJoinedTo (fabric_of now) w.seat) (fabric_of now) port node here (cells_of facts) tells in
      let its_end : IsEndPort (cells_of facts) x.guid 0 = subst (λ (r : ℕ × ℕ). IsEndPort (cells_of facts) r.0 r.1) (λ j. (sym guid j, at_zero j)) end in
      let reached : IsReached written.planned.sweep x.guid 0 = reached_known w before between after written.planned x.guid 0 its_end in
      let own : Contains (own_tree (at_writing w before between).manager) x = subst (λ (xs : List TreePorts). Contains xs x) (sym tree_is) among in
      let (b, seen, same) = agent_seen now port.node node here.node_there in
      let a_is : node_of a ≡ node = ap node_of (same_Some a b (sym there ∙ seen)) ∙ same in
      let ports_are : a.node.ports ≡ node.ports = ap (λ (n : Node). n.ports) a_is in
      let kind : is_switch a.node.kind ≡ true = ap (λ (n : Node). is_switch n.kind) a_is ∙ switch in
      let counted : position_count a.node ≡ a.node.ports / 16 + 1 = ap (λ t. cond t (a.node.ports / 16 + 1) 0) kind in
      let known : port_count_of (cells_of facts) node.guid ≡ node.ports = ap (λ o. option_map_or (λ (n : NodeType × ℕ). n.1) o 0) tells.kind in
      let few = ((simulations_are_fabrics now is_simulation).counts port.node node here.node_there).1 in
      let within : position < steps.position_count (cells_of facts) x.guid =
      subst (λ (n : ℕ). position < min (n / 16) 15 + 1) (sym known ∙ ap (port_count_of (cells_of facts)) (sym guid))
      (inside_of node.ports position few (omega (arith, inside, counted, ports_are))) in
      taken_trees_are_held w before between after written.planned.writes.run written.planned.sweep written.planned.is_last written.taken x own reached
      (written.tables x own) port.node node (record { there = here.node_there; named = sym guid }) a there position i within less

pub each_gets_one_copy_once_taken : EachGetsOneCopyOnceTaken
each_gets_one_copy_once_taken w before between after written sender at receiver from to apart =
    each_gets_one_copy (at_writing w before between).manager.planning.rule (at_writing w before between).manager.store
    (at_end w before between after).scene.fabric w.seat
    (at_end_is w before between after written.planned.writes.run written.planned.sweep written.planned.is_last)
    (seat_is_end w before between after written.planned) (covers (agrees w before between after written)) (holds_tree w before between after written)
    sender at receiver from to apart
