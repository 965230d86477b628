-- Where a packet for a LID ends, wire by wire, and how many wires it takes.
-- InfiniBand Architecture Specification, Volume 1: switches, unicast forwarding by the linear forwarding table.
use Rattle.std.specs.Prelude.{◌≡◌, ℕ, zero, suc, ◌+◌, List, length, Option, Some, None, if◌then◌else◌}
use Rattle.std.specs.Option.{option_map_or}
use Rattle.fabric_model.specs.declared.cable.NodePort.{NodePort}
use Rattle.fabric_model.specs.declared.course.Course.{Course}
use Rattle.fabric_model.specs.declared.course.Course.TheVariants.{Delivers, LeavesBy, Drops}
use Rattle.fabric_model.specs.Fabric.{Fabric}
use Rattle.fabric_model.specs.Forwarding.{Standing, Hop, sent_from, arrived_at, course, wire_bound, IsDelivered, IsLost}
use Rattle.fabric_sim.specs.declared.fabric_fault.FabricFault.{FabricFault}
use Rattle.fabric_sim.specs.declared.fabric_fault.FabricFault.TheVariants.{NoSuchPort}
use Rattle.fabric_sim.specs.Simulation.{Simulation, is_port}
use Rattle.fabric_sim.specs.declared.ping.Ping.{Ping}
use Rattle.fabric_sim.specs.declared.ping.Ping.TheVariants.{Reached, Lost}

-- the end of a packet that has taken `hops` wires to `s`, given its course there; for a packet that takes one more
-- wire, `on` gives the end from the port that it reaches
abbrev pub ping_by : Fabric → Standing → ℕ → (NodePort → Ping) → Course → Ping
ping_by f s hops on (Delivers p) = Reached p hops
ping_by f s hops on (LeavesBy out) = option_map_or on (f.across out) (Lost s.at.node)
ping_by f s hops on Drops = Lost s.at.node

-- the end of a packet for `lid` that has taken `hops` wires to `s`. The argument after `lid` is the number of nodes
-- that the packet may still visit, that of `s` included; if it is 0, the packet is lost at `s`
abbrev pub ping_on : Fabric → ℕ → ℕ → ℕ → Standing → Ping
ping_on f lid zero hops s = Lost s.at.node
ping_on f lid (suc left) hops s =
    ping_by f s hops (λ into. ping_on f lid left (hops + 1) (arrived_at into)) (course f lid s)

-- where a packet for `lid` ends if it is sent from the port `source`; a packet that loops counts as lost
abbrev pub ping : Fabric → ℕ → NodePort → Ping
ping f lid source = ping_on f lid (wire_bound f) 0 (sent_from source)

-- `NoSuchPort` if the port to send from does not exist, otherwise None
abbrev pub ping_fault : Simulation → NodePort → Option FabricFault
ping_fault s source = if is_port s source then None else Some NoSuchPort

-- a walk of `count` wires delivers a packet for `lid` from `source` at `target`
pub record DeliversOver (f : Fabric) (lid : ℕ) (source target : NodePort) (count : ℕ) : Type 0 where
  pub hops : List Hop
  pub length : length hops ≡ count
  pub delivered : IsDelivered f lid source hops target

-- what a ping says is true: if it reports a port, the packet is delivered at that port along as many wires as the
-- ping says; if it reports a loss at a node, the packet is lost at that node
abbrev pub PingsTell : Type 0
PingsTell = (f : Fabric) (lid : ℕ) (source : NodePort)
    → ((target : NodePort) (count : ℕ) → ping f lid source ≡ Reached target count
    → DeliversOver f lid source target count)
    × ((id : ℕ) → ping f lid source ≡ Lost id → (hops : List Hop) × IsLost f lid source hops id)

-- if a packet is delivered at `target`, a ping reports `target`, and as many wires as the packet takes
abbrev pub PingsFind : Type 0
PingsFind = (f : Fabric) (lid : ℕ) (source target : NodePort) (hops : List Hop) → IsDelivered f lid source hops target
    → ping f lid source ≡ Reached target (length hops)
