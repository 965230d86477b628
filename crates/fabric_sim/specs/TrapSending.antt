-- The traps by which switches report to the master that the state of a link has changed: which of them wait, and
-- which are sent.
use Rattle.std.specs.Prelude.{ℕ, Bool, ◌&&◌, ◌==◌, nat_lt, length, if◌then◌else◌, Option, Some, None, is_some, Ok}
use Rattle.std.specs.Option.{option_map_or}
use Rattle.fabric_model.specs.declared.cable.NodePort.{NodePort}
use Rattle.fabric_model.specs.declared.course.Course.{Course}
use Rattle.fabric_model.specs.declared.course.Course.TheVariants as course_is
use Rattle.fabric_model.specs.Fabric.{is_switch_at}
use Rattle.fabric_model.specs.Forwarding.{course, sent_from}
use Rattle.node_agents.specs.Agent.{master_sm_lid_at}
use Rattle.fabric_sim.specs.declared.packet.Packet.{Packet}
use Rattle.fabric_sim.specs.declared.flight.Whereabouts.TheVariants.{Made}
use Rattle.fabric_sim.specs.Called.{Called}
use Rattle.fabric_sim.specs.Traps.{Traps, begun, next_trap, trap_at, with_new_trap}
use Rattle.fabric_sim.specs.Notice.{link_trap}
use Rattle.fabric_sim.specs.Simulation.{Simulation, across, agent_at, fabric_of}
use Rattle.fabric_sim.specs.Delivery.{after_enqueue}

-- the fabric with its traps replaced by `traps`
abbrev pub with_traps : Simulation → Traps → Simulation
with_traps s traps = record s { traps = traps }

-- the outcome of a call that leaves `s`, and fails only for lack of memory
abbrev pub leaving_just : Simulation → Called (Unit {0})
leaving_just s = record { fabric = s; result = Ok tt }

-- the fabric after switches begin to send traps; unchanged if they send traps already
abbrev pub after_begin_traps : Simulation → Called (Unit {0})
after_begin_traps s = leaving_just (with_traps s (begun s.traps (length s.agents)))

-- where a trap goes ------------------------------------------------------------------------------

-- port 0 of a node
abbrev pub port_zero : ℕ → NodePort
port_zero id = record { node = id; port = 0 }

-- the LID that was set at port 0 of the node `id` as the subnet manager's; 0 if none was set
abbrev pub master_lid : Simulation → ℕ → ℕ
master_lid s id = option_map_or (λ a. master_sm_lid_at a 0) (agent_at s id) 0

-- the port by which a packet leaves on the given course, if there is a cable in it; otherwise None
abbrev pub cabled_out : Simulation → Course → Option NodePort
cabled_out s (course_is.LeavesBy out) = if is_some (across s.peers out) then Some out else None
cabled_out s (course_is.Delivers p) = None
cabled_out s course_is.Drops = None

-- the port by which the node `id` forwards its trap to the subnet manager; None if the node has no LID, or if the
-- trap leaves by no port with a cable
abbrev pub trap_out : Simulation → ℕ → Option NodePort
trap_out s id =
    if (fabric_of s).base_lid (port_zero id) == 0 then None
    else cabled_out s (course (fabric_of s) (master_lid s id) (sent_from (port_zero id)))

-- the trap of the node `id` with the TransactionID `number`, from the node's LID to the LID of the subnet manager
abbrev pub trap_packet : Simulation → ℕ → ℕ → Packet
trap_packet s id number =
    let lid = (fabric_of s).base_lid (port_zero id) in
    record { bytes = link_trap lid number; slid = lid; dlid = master_lid s id }

-- the fabric with the trap added in flight, at the given port, by which it leaves; unchanged if the port is None,
-- since the trap cannot leave, or if no serial number is left
abbrev pub with_trap_sent : Simulation → ℕ → ℕ → Option NodePort → Simulation
with_trap_sent s id number None = s
with_trap_sent s id number (Some out) = (after_enqueue s (Made out) (trap_packet s id number)).fabric

-- the fabric after the trap with the TransactionID `number` is sent from the node `id`; unchanged if the trap cannot
-- leave, or if no serial number is left
abbrev pub trap_sent : Simulation → ℕ → ℕ → Simulation
trap_sent s id number = with_trap_sent s id number (trap_out s id)

-- calls ------------------------------------------------------------------------------------------

-- the fabric after the trap that waits at the node `id` is sent; unchanged if no trap waits there, if the trap cannot
-- leave, or if no serial number is left
unfoldable pub after_send_trap : Simulation → ℕ → Called (Unit {0})
after_send_trap s id = leaving_just (option_map_or (trap_sent s id) (trap_at s.traps id) s)

-- whether the node `id` is a switch, and switches send traps
abbrev pub sends_traps : Simulation → ℕ → Bool
sends_traps s id = nat_lt id (length s.traps.waiting) && is_switch_at (fabric_of s) id

-- the fabric after the state of a port of the node `id` has changed: if the node is a switch and switches send traps,
-- a new trap waits there, and is sent if it can leave and a serial number is left
unfoldable pub after_port_change : Simulation → ℕ → Called (Unit {0})
after_port_change s id =
    leaving_just (if sends_traps s id then with_traps (trap_sent s id (next_trap s.traps)) (with_new_trap s.traps id) else s)
