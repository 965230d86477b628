-- A TrapRepress that arrives at a switch ends the trap with its TransactionID that waits there.
use Rattle.std.specs.Prelude.{◌≡◌, ◌≢◌, ℕ, true, false, is_some, Some, None, Ok}
use Rattle.fabric_model.specs.declared.cable.NodePort.{NodePort}
use Rattle.fabric_model.specs.declared.course.Course.TheVariants.{Delivers}
use Rattle.fabric_model.specs.Fabric.{is_switch_at}
use Rattle.fabric_model.specs.Forwarding.{course}
use Rattle.smp_bytes.specs.Field.{number_in}
use Rattle.smp_bytes.specs.Packet.{fault_of, is_directed, method, transaction_id}
use Rattle.fabric_sim.specs.declared.delivered.Delivered.{Delivered}
use Rattle.fabric_sim.specs.declared.delivered.Delivered.TheVariants.{Discarded}
use Rattle.fabric_sim.specs.declared.delivered.Reason.TheVariants.{Repress}
use Rattle.fabric_sim.specs.declared.flight.Flight.{Flight}
use Rattle.fabric_sim.specs.Called.{Called}
use Rattle.fabric_sim.specs.Delivery.{after_deliver}
use Rattle.fabric_sim.specs.Notice.{trap_repress}
use Rattle.fabric_sim.specs.Simulation.{Simulation, IsSimulation, across, fabric_of, is_by_wire, port_of}
use Rattle.fabric_sim.specs.Flights.{flight_with}
use Rattle.fabric_sim.specs.Traps.{trap_at}

-- the packet of `flight` has no fault, is LID-routed, and is a TrapRepress with the TransactionID `number`. It waits
-- at a port of the switch `id` that has a cable, and the switch forwards it to itself
pub record IsRepress (s : Simulation) (flight : Flight) (id number : ℕ) : Type 0 where
  pub parses : fault_of flight.packet.bytes ≡ None
  pub by_lids : is_directed flight.packet.bytes ≡ false
  pub represses : number_in method flight.packet.bytes ≡ trap_repress
  pub transaction : number_in transaction_id flight.packet.bytes ≡ number
  pub node : (port_of flight.whereabouts).node ≡ id
  pub switch : is_switch_at (fabric_of s) id ≡ true
  pub cable : is_some (across s.peers (port_of flight.whereabouts)) ≡ true
  pub end : NodePort
  pub arrives : course (fabric_of s) flight.packet.dlid (record {
    at = port_of flight.whereabouts;
    by_wire =
        is_by_wire flight.whereabouts;
  }) ≡ Delivers end

-- the delivery with the outcome `done` discards its packet, with no answer; the trap with the TransactionID `number`
-- no longer waits at the node `id`, and any other trap waits as before
pub record EndsTrap (s : Simulation) (done : Called Delivered) (id number : ℕ) : Type 0 where
  pub discarded : done.result ≡ Ok (Discarded Repress)
  pub ended : trap_at s.traps id ≡ Some number → trap_at done.fabric.traps id ≡ None
  pub newer : trap_at s.traps id ≢ Some number → trap_at done.fabric.traps id ≡ trap_at s.traps id
  pub others : (other : ℕ) → other ≢ id → trap_at done.fabric.traps other ≡ trap_at s.traps other

-- the delivery of a TrapRepress that has arrived at its switch ends the trap with the TransactionID of the
-- TrapRepress, if this trap waits there
abbrev pub RepressesEndTraps : Type 0
RepressesEndTraps = (s : Simulation) (serial id number : ℕ) (flight : Flight) → IsSimulation s
    → flight_with s.flights serial ≡ Some flight → IsRepress s flight id number
    → EndsTrap s (after_deliver s serial) id number
