use Rattle.std.proofs.Common.{◌≡◌, ℕ, ◌+◌, ◌<◌, length}
use Rattle.fabric_sim.specs.Simulation.{fabric_of}
use Rattle.fabric_sim.specs.Ping.{ping, ping_on}
use Rattle.fabric_sim.proofs.fabric.Fabric.ping.Given as goal

-- the packet is at a node that is there, and comes from here to where it came from its sender
abbrev pub invariant-loop-hops : goal.invariant-loop-hops
invariant-loop-hops l =
    record {
      there : l.at.node < length l.self.agents;
      goes : (left : ℕ) → l.hops + left ≡ l.bound → ping_on (fabric_of l.self) l.lid left l.hops (record { at = l.at; by_wire = l.is_by_wire })
          ≡ ping (fabric_of l.self) l.lid l.fn.from;
    }
