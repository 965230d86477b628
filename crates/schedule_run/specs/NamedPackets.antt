-- The packets in flight that commands name.
use Rattle.std.specs.Prelude.{ℕ, ◌-◌, List, Option, None, Some, length, option_map, slice_get}
use Rattle.std.specs.Option.{option_map_or}
use Rattle.fabric_sim.specs.Changes.{after_lose}
use Rattle.fabric_sim.specs.Simulation.{Simulation}
use Rattle.fabric_sim.specs.declared.packet.Packet.{Packet}
use Rattle.sm_manager.specs.declared.outgoing.Outgoing.{Outgoing}
use Rattle.fabric_sim.specs.declared.flight.Flight.{Flight}
use Rattle.schedule_file.specs.declared.command.Which.{Which}
use Rattle.schedule_file.specs.declared.command.Which.TheVariants.{Last, Serial}

-- the serial number of the packet that is named, whether or not this packet is in flight; None if the last packet is
-- named and no packet is in flight
abbrev pub serial_of : List Flight → Which → Option ℕ
serial_of flights Last = option_map (λ flight. flight.serial) (slice_get flights (length flights - 1))
serial_of flights (Serial serial) = Some serial

-- the packet that a manager sends: the DLID is the LID that the packet is sent to, or the permissive LID if there is
-- none; the SLID is the permissive LID
abbrev pub packet_out : Outgoing → Packet
packet_out outgoing =
    record { bytes = outgoing.packet; slid = 0xFFFF; dlid = option_map_or (λ lid. lid) outgoing.to 0xFFFF }

-- the fabric without the packet with the serial number that is given, if there is such a packet
abbrev pub without : Simulation → Option ℕ → Simulation
without fabric None = fabric
without fabric (Some serial) = (after_lose fabric serial).fabric
