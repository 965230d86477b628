use Rattle.std.proofs.Common.{◌≡◌, ◌<◌, ◌^◌, List, length, ap, sym, ◌∙◌, subst, rules}
use Rattle.std.specs.Prelude.{Some, None, slice_get}
use Rattle.fabric_sim.specs.declared.flight.Flight.{Flight}
use Rattle.fabric_sim.specs.Simulation.{Simulation, IsSimulation}
use Rattle.fabric_sim.specs.Traps.{Traps, no_traps}
use Rattle.fabric_sim.proofs.Built.{nodes_in_more, all_nodes, all_nodes_are}
use Rattle.fabric_sim.proofs.build.uncabled.Goals as goal

pub loop-node-preserved : goal.loop-node-preserved
loop-node-preserved c =
    let count : c.len.result ≡ length c.loop-node.agents.items = search rules in
    let at : slice_get c.args.topology.now.nodes (length c.loop-node.agents.items) ≡ Some c.in-Some.node.now =
    ap (λ n. slice_get c.args.topology.now.nodes n) (sym count) ∙ search rules in
    nodes_in_more c.args.topology.now c.loop-node.agents.items _ c.loop-node.peers.items _ c.in-Some.node.now c.in_ok-new.field-0 c.in_ok-new-2.field-0
    c.loop-node.invariant at
    (search rules) (search rules) (search rules) (search rules)

-- no node is left
none : (c : goal.After-none) → slice_get c.args.topology.now.nodes (length c.loop-node.agents.items) ≡ None
none c =
    let count : c.new.result ≡ length c.loop-node.agents.items = search rules in
    ap (λ n. slice_get c.args.topology.now.nodes n) (sym count) ∙ sym c.in_default.ensures.node

pub invariant_of-result : goal.invariant_of-result
invariant_of-result c =
    let fits : c.args.first_serial < 2 ^ 64 = search rules in
    let P : List Flight → Traps → Type 0 = λ fs traps. IsSimulation (record {
      agents = c.loop-node.agents.items;
      peers = c.loop-node.peers.items;
      flights = fs;
      next = c.args.first_serial;
      traps = traps;
    }) in
    subst (P _) (sym c.none.ensures) (subst (λ fs. P fs no_traps) (sym c.new-2.ensures.items)
    (all_nodes_are c.args.topology.now c.loop-node.agents.items c.loop-node.peers.items c.args.first_serial c.loop-node.invariant (none c) fits))

pub returns-clause-fabric : goal.returns-clause-fabric
returns-clause-fabric c =
    let made : List Flight → Traps → Simulation = λ fs traps. record {
      agents = c.loop-node.agents.items;
      peers = c.loop-node.peers.items;
      flights = fs;
      next = c.args.first_serial;
      traps = traps;
    } in
    ap (λ (traps : Traps). made c.new-2.result.items traps) c.none.ensures
    ∙ ap (λ (fs : List Flight). made fs no_traps) c.new-2.ensures.items
    ∙ all_nodes c.args.topology.now c.loop-node.agents.items c.loop-node.peers.items c.args.first_serial c.loop-node.invariant (none c)
