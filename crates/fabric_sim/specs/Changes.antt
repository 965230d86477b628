-- The calls that change a fabric, other than deliveries: managers are seated, packets sent, copied and lost, cables
-- plugged in and cut.
use Rattle.std.specs.Prelude.{ℕ, ◌&&◌, ◌||◌, not, List, [], slice_index_or, slice_set, if◌then◌else◌, Option, Some, None, is_none, is_some, Ok}
use Rattle.fabric_model.specs.declared.cable.NodePort.{NodePort}
use Rattle.fabric_model.specs.Fabric.{is_switch_at}
use Rattle.smp_bytes.specs.Packet.{is_lid_routed}
use Rattle.node_agents.specs.Agent.{Agent, after_set_wired, after_set_seat}
use Rattle.fabric_sim.specs.declared.packet.Packet.{Packet}
use Rattle.fabric_sim.specs.declared.flight.Whereabouts.TheVariants.{Made, Seat}
use Rattle.fabric_sim.specs.declared.flight.Flight.{Flight}
use Rattle.fabric_sim.specs.declared.fabric_fault.FabricFault.TheVariants.{NoSuchPacket, NoSuchPort, PortTaken}
use Rattle.fabric_sim.specs.Simulation.{Simulation, is_cable_port, is_seat_at, across, fabric_of}
use Rattle.fabric_sim.specs.Flights.{flight_with}
use Rattle.fabric_sim.specs.Called.{Called, refused}
use Rattle.fabric_sim.specs.Delivery.{with_changed, after_enqueue, without}

-- packets ------------------------------------------------------------------------------

-- the packet, with the base LID of the port `p` as its SLID if it is forwarded by LIDs
abbrev pub addressed : Simulation → NodePort → Packet → Packet
addressed s p packet = if is_lid_routed packet.bytes then record packet { slid = (fabric_of s).base_lid p } else packet

-- the fabric after a packet is sent from the seat `p`, and the packet's serial number; refused if no manager sits at
-- `p`, or if no serial number is left
unfoldable pub after_inject : Simulation → NodePort → Packet → Called ℕ
after_inject s p packet =
    if not (is_seat_at s p) then refused s NoSuchPort else after_enqueue s (Seat p) (addressed s p packet)

-- the fabric after a node without a manager has sent a packet from its port `p`, and the packet's serial number;
-- refused if `p` is not a cable port (`is_cable_port`), or if no serial number is left
unfoldable pub after_emit : Simulation → NodePort → Packet → Called ℕ
after_emit s p packet = if not (is_cable_port s p) then refused s NoSuchPort else after_enqueue s (Made p) packet

-- the fabric after a copy of the given packet was added, and the copy's serial number; the copy waits where the
-- packet waits. Refused if the packet is None, or if no serial number is left
abbrev pub copied : Simulation → Option Flight → Called ℕ
copied s None = refused s NoSuchPacket
copied s (Some flight) = after_enqueue s flight.whereabouts flight.packet

-- the fabric after the packet with the number `serial` was copied, and the copy's serial number; the copy waits where
-- the packet waits. Refused if there is no such packet, or if no serial number is left
unfoldable pub after_repeat : Simulation → ℕ → Called ℕ
after_repeat s serial = copied s (flight_with s.flights serial)

-- the fabric after the packet with the number `serial` is lost; refused if there is no such packet
unfoldable pub after_lose : Simulation → ℕ → Called (Unit {0})
after_lose s serial =
    if is_none (flight_with s.flights serial) then refused s NoSuchPacket
    else record { fabric = without s serial; result = Ok tt }

-- ports -------------------------------------------------------------------------------

-- the fabric `s` after `change` was applied to the agent of the node of the port `p` and to the number of `p`;
-- unchanged if there is no such node
abbrev pub changed_at : Simulation → NodePort → (Agent → ℕ → Agent) → Simulation
changed_at s p change = record s { agents = with_changed s.agents p.node (λ a. change a p.port) }

-- the fabric after a manager is seated at the port `p`; refused if `p` is not a port of an adapter, from 1 to its
-- port count, or if a manager sits there already
unfoldable pub after_seat : Simulation → NodePort → Called (Unit {0})
after_seat s p =
    if is_switch_at (fabric_of s) p.node || not (is_cable_port s p) then refused s NoSuchPort
    else if is_seat_at s p then refused s PortTaken
    else record { fabric = changed_at s p after_set_seat; result = Ok tt }

-- `peers`, the other ends of the cables, with `other` as the other end of the cable in the port `p`; None stands for
-- no cable
abbrev pub with_peer : List (List (Option NodePort)) → NodePort → Option NodePort → List (List (Option NodePort))
with_peer peers p other = slice_set peers p.node (slice_set (slice_index_or peers p.node []) p.port other)

-- the fabric after one end of a cable is plugged into the port `p`, with the cable's other end at `other`; or, if
-- `other` is None, after the cable's end is taken out of `p`
abbrev pub with_end : Simulation → NodePort → Option NodePort → Simulation
with_end s p other =
    record (changed_at s p (λ a port. after_set_wired a port (is_some other))) { peers = with_peer s.peers p other }

-- the fabric after a cable is plugged into the ports `p` and `q`, as a loop if `p` is `q`
unfoldable pub cabled_at : Simulation → NodePort → NodePort → Simulation
cabled_at s p q = with_end (with_end s p (Some q)) q (Some p)

-- the fabric after the cable between the ports `p` and `q` is taken out
unfoldable pub uncabled_at : Simulation → NodePort → NodePort → Simulation
uncabled_at s p q = with_end (with_end s p None) q None

-- the fabric after a cable is plugged into the ports `p` and `q`, as a loop if `p` is `q`; refused if `p` or `q` is
-- not a cable port (`is_cable_port`), or if there is a cable in it already
unfoldable pub after_plug : Simulation → NodePort → NodePort → Called (Unit {0})
after_plug s p q =
    if not (is_cable_port s p && is_cable_port s q) then refused s NoSuchPort
    else if not (is_none (across s.peers p) && is_none (across s.peers q)) then refused s PortTaken
    else record { fabric = cabled_at s p q; result = Ok tt }

-- the fabric after the cable from `p` to the given other end is taken out; refused if the other end is None, since
-- there is no cable
abbrev pub cut_apart : Simulation → NodePort → Option NodePort → Called (Unit {0})
cut_apart s p None = refused s NoSuchPort
cut_apart s p (Some q) = record { fabric = uncabled_at s p q; result = Ok tt }

-- the fabric after the cable in the port `p` is taken out; refused if there is no cable in `p`
unfoldable pub after_cut : Simulation → NodePort → Called (Unit {0})
after_cut s p = cut_apart s p (across s.peers p)
