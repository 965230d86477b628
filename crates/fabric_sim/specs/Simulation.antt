-- A simulated fabric: the agents of its nodes, the cables between their ports, and the packets on their way.
use Rattle.std.specs.Prelude.{◌≡◌, ℕ, ◌+◌, ◌^◌, ◌<◌, ◌≤◌, ◌↔◌, ◌&&◌, ◌||◌, Bool, true, false, List, [], map, length}
use Rattle.std.specs.Prelude.{All, slice_get, slice_index_or, nat_le, Option, Some, None}
use Rattle.std.specs.Option.{option_map_or}
use Rattle.smp_bytes.specs.Ports.{is_within}
use Rattle.fabric_model.specs.declared.cable.NodePort.{NodePort}
use Rattle.fabric_model.specs.Fabric.{Fabric, is_switch_at}
use Rattle.attr_codec.specs.declared.port_state.PortState.TheVariants.{Down}
use Rattle.node_agents.specs.Agent.{Agent, IsAgent, node_of, state_at, base_lid_at, lmc_at, entry_at, has_seat}
use Rattle.fabric_sim.specs.declared.flight.Whereabouts.{Whereabouts}
use Rattle.fabric_sim.specs.declared.flight.Whereabouts.TheVariants.{Seat, Arrived, Made}
use Rattle.fabric_sim.specs.declared.flight.Flight.{Flight}
use Rattle.fabric_sim.specs.Traps.{Traps}
use Rattle.fabric_sim.specs.Flights.{AreRising}

-- a simulated fabric: `agents` has the agents by the ids of their nodes. `peers` has for each node the other ends of
-- the cables in its ports, starting at port 0; port 0 never has a cable. `flights` has the packets in flight, in
-- ascending order of serial number. `next` is the next serial number, or 2 ^ 64 if none is left. `traps` has the
-- traps that wait at switches
pub record Simulation : Type 0 where
  pub agents : List Agent
  pub peers : List (List (Option NodePort))
  pub flights : List Flight
  pub next : ℕ
  pub traps : Traps

-- the next serial number as a number: 2 ^ 64 for None, which says that none is left
abbrev pub next_serial : Option ℕ → ℕ
next_serial None = 2 ^ 64
next_serial (Some serial) = serial

-- nodes and ports ----------------------------------------------------------------------

-- the agent of the node `id`; None if there is no such node
abbrev pub agent_at : Simulation → ℕ → Option Agent
agent_at s id = slice_get s.agents id

-- the number of ports of the node `id`, without port 0; 0 if there is no such node
abbrev pub port_count : Simulation → ℕ → ℕ
port_count s id = option_map_or (λ a. a.node.ports) (agent_at s id) 0

-- whether the port `p` is from 1 to its node's port count in `agents`, so that a cable can be plugged in
abbrev pub has_cable_port : List Agent → NodePort → Bool
has_cable_port agents p = is_within p.port (option_map_or (λ a. a.node.ports) (slice_get agents p.node) 0)

-- whether the port `p` is from 1 to its node's port count in the fabric, so that a cable can be plugged in
abbrev pub is_cable_port : Simulation → NodePort → Bool
is_cable_port s p = has_cable_port s.agents p

-- whether a subnet manager sits at the port `p`
abbrev pub is_seat_at : Simulation → NodePort → Bool
is_seat_at s p = option_map_or (λ a. has_seat a p.port) (agent_at s p.node) false

-- the port at the other end of the cable in the port `p`, according to `peers`; for a loop, `p` itself; None if there
-- is no cable
abbrev pub across : List (List (Option NodePort)) → NodePort → Option NodePort
across peers p = slice_index_or (slice_index_or peers p.node []) p.port None

-- the fabric that packets see: its nodes, its cables, and the LIDs and table entries of its agents
abbrev pub fabric_of : Simulation → Fabric
fabric_of s =
    record {
      nodes = map node_of s.agents;
      across = across s.peers;
      base_lid = λ p. option_map_or (λ a. base_lid_at a p.port) (agent_at s p.node) 0;
      lmc = λ p. option_map_or (λ a. lmc_at a p.port) (agent_at s p.node) 0;
      entry = λ id lid. option_map_or (λ a. entry_at a lid) (agent_at s id) 255;
      top = λ id. option_map_or (λ a. a.top) (agent_at s id) 0;
    }

-- whether the fabric has the port `p`: it is from 1 to its node's port count, or is port 0 of a switch
abbrev pub is_port : Simulation → NodePort → Bool
is_port s p = nat_le p.port (port_count s p.node) && (nat_le 1 p.port || is_switch_at (fabric_of s) p.node)

-- whereabouts -----------------------------------------------------------------------------

-- the port where a packet waits
abbrev pub port_of : Whereabouts → NodePort
port_of (Seat p) = p
port_of (Arrived p) = p
port_of (Made p) = p

-- whether the whereabouts are a seat
abbrev pub is_at_seat : Whereabouts → Bool
is_at_seat (Seat p) = true
is_at_seat (Arrived p) = false
is_at_seat (Made p) = false

-- whether the whereabouts are a port to which a packet came by a wire
abbrev pub is_by_wire : Whereabouts → Bool
is_by_wire (Seat p) = false
is_by_wire (Arrived p) = true
is_by_wire (Made p) = false

-- the whereabouts of an answer, given those of its request: the same seat if the request waited at a seat, else
-- `Made` at the same port
abbrev pub answer_whereabouts : Whereabouts → Whereabouts
answer_whereabouts (Seat p) = Seat p
answer_whereabouts (Arrived p) = Made p
answer_whereabouts (Made p) = Made p

-- what each simulation satisfies ---------------------------------------------------------

-- `peers` has a slot for the other end of the cable in the port `p`
abbrev pub HasPeerSlot : List (List (Option NodePort)) → NodePort → Type 0
HasPeerSlot peers p = p.port < length (slice_index_or peers p.node [])

-- for each node, the list in `peers` has a slot for port 0 and for each other port
abbrev pub FitsPorts : Simulation → Type 0
FitsPorts s = (id : ℕ) (a : Agent) → agent_at s id ≡ Some a → length (slice_index_or s.peers id []) ≡ a.node.ports + 1

-- a port from 1 to its node's port count is Down exactly when there is no cable in it
abbrev pub AreUncabledDown : Simulation → Type 0
AreUncabledDown s =
    (p : NodePort) (a : Agent) → agent_at s p.node ≡ Some a → is_cable_port s p ≡ true → (state_at a p.port ≡ Down)
    ↔ (across s.peers p ≡ None)

-- the cables fit the nodes and their agents: each end is in a cable port (`is_cable_port`), and each cable leads back
-- from its other end. A cable port is Down exactly when there is no cable in it
pub record AreCables (s : Simulation) : Type 0 where
  pub lists : length s.peers ≡ length s.agents
  pub fit : FitsPorts s
  pub ends : (p q : NodePort) → across s.peers p ≡ Some q → is_cable_port s p ≡ true
  pub lead_back : (p q : NodePort) → across s.peers p ≡ Some q → across s.peers q ≡ Some p
  pub down : AreUncabledDown s

-- a packet can wait as `whereabouts` says: the port there is a cable port (`is_cable_port`), and if the whereabouts
-- are a seat, a manager sits there
pub record CanWait (s : Simulation) (whereabouts : Whereabouts) : Type 0 where
  pub port : is_cable_port s (port_of whereabouts) ≡ true
  pub seat : is_at_seat whereabouts ≡ true → is_seat_at s (port_of whereabouts) ≡ true

-- the packet `flight` waits where a packet can wait (`CanWait`), and its serial number is below the next one
pub record IsWaiting (s : Simulation) (flight : Flight) : Type 0 where
  pub whereabouts : CanWait s flight.whereabouts
  pub given : flight.serial < s.next

-- `s` has at most 1024 nodes with their agents, managers only at cable ports (`is_cable_port`), and cables that fit
-- (`AreCables`). Packets in flight wait where they can. Their serial numbers rise and are below the next one, which
-- is at most 2 ^ 64
pub record IsSimulation (s : Simulation) : Type 0 where
  pub few : length s.agents ≤ 1024
  pub agents : All IsAgent s.agents
  pub seats : (p : NodePort) → is_seat_at s p ≡ true → is_cable_port s p ≡ true
  pub cables : AreCables s
  pub waiting : All (IsWaiting s) s.flights
  pub rising : AreRising s.flights
  pub next : s.next ≤ 2 ^ 64
