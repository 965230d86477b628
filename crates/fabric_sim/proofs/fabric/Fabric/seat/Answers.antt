use Rattle.std.proofs.Common.{◌≡◌, ℕ, true, false, sym, ap, ◌∙◌, subst, rules, get_or}
use Rattle.std.specs.Prelude.{slice_set}
use Rattle.fabric_model.specs.Fabric.{is_switch_at}
use Rattle.node_agents.specs.Agent.{after_set_seat}
use Rattle.fabric_sim.specs.Simulation.{Simulation, IsSimulation, is_cable_port, has_cable_port, fabric_of, next_serial}
use Rattle.fabric_sim.specs.Changes.{changed_at, after_seat}
use Rattle.fabric_sim.proofs.Invariants.{seated_is}
use Rattle.fabric_sim.proofs.Written.{agent_read, changed_now}
use Rattle.fabric_sim.proofs.fabric.Fabric.seat.Goals as goal

port : (c : goal.After-self-1) → is_cable_port c.args.self.now c.args.at ≡ true
port c = search rules

adapter : (c : goal.After-self-1) → is_switch_at (fabric_of c.args.self.now) c.args.at.node ≡ false
adapter c = search rules

-- the fabric then, by the id of the node
abbrev now_at : goal.After-self-1 → ℕ → Simulation
now_at c id =
    record {
      agents = slice_set c.self.inside.agents.items id c.set_seat.new.self;
      peers = c.self.inside.peers.items;
      flights = c.self.inside.flights.items;
      next = next_serial c.self.inside.next;
      traps = c.self.inside.traps;
    }

written : (c : goal.After-self-1) → ◌≡◌ {A = Simulation}
    (record {
      agents = slice_set c.self.inside.agents.items c.number.result c.set_seat.new.self;
      peers = c.self.inside.peers.items;
      flights =
          c.self.inside.flights.items;
      next = next_serial c.self.inside.next;
      traps = c.self.inside.traps;
    })
    (changed_at c.args.self.now c.args.at after_set_seat)
written c =
    let there : has_cable_port c.self.inside.agents.items c.args.at ≡ true = let P : Simulation → Type 0 =
    λ s. is_cable_port s c.args.at ≡ true in subst P (sym c.self.view_is) (port c) in
    let read : c.index_mut-agent.result.now ≡ get_or c.self.inside.agents.items c.args.at.node c.index_mut-agent.result.now =
    subst (λ (n : ℕ). c.index_mut-agent.result.now
    ≡ get_or c.self.inside.agents.items n c.index_mut-agent.result.now) c.number.ensures c.index_mut-agent.ensures.value in
    ap (λ (n : ℕ). now_at c n) c.number.ensures
    ∙ changed_now _ _ c.self.view_is c.args.at after_set_seat c.index_mut-agent.result.now c.set_seat.new.self (agent_read _ c.args.at _ there read)
    c.set_seat.ensures

pub invariant_of-self : goal.invariant_of-self
invariant_of-self c =
    subst IsSimulation (sym (written c)) (seated_is c.args.self.now c.args.at (subst IsSimulation c.self.view_is c.self.invariant) (port c) (adapter c))

pub returns-clause-fabric : goal.returns-clause-fabric
unfolding after_seat
returns-clause-fabric c = written c ∙ search rules
