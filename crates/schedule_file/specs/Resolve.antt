-- The managers and ports that names in a schedule stand for.
use Rattle.std.specs.Prelude.{ℕ, ◌&&◌, ◌||◌, not, Bool, false, List, Option, None, Some, option_map, option_and_then, position}
use Rattle.std.specs.Prelude.{is_some, slice_get, if◌then◌else◌, Result, Ok, Err}
use Rattle.std.specs.List.{list_any}
use Rattle.std.specs.Option.{option_map_or}
use Rattle.std.specs.Str.{bytes_eq}
use Rattle.fabric_model.specs.Cables.{is_same_port}
use Rattle.smp_bytes.specs.NodeType.{is_switch}
use Rattle.smp_bytes.specs.Ports.{is_within}
use Rattle.fabric_model.specs.declared.cable.NodePort.{NodePort}
use Rattle.topo_file.specs.declared.node.Node.{Node}
use Rattle.topo_file.specs.Topology.{id_of}
use Rattle.schedule_file.specs.declared.command.Command.{Command}
use Rattle.schedule_file.specs.declared.command.Command.TheVariants as command
use Rattle.schedule_file.specs.declared.command.Shown.{Shown}
use Rattle.schedule_file.specs.declared.named_command.PortName.{PortName}
use Rattle.schedule_file.specs.declared.schedule_fault.ScheduleFault.{ScheduleFault}
use Rattle.schedule_file.specs.declared.schedule_fault.ScheduleFault.TheVariants as fault
use Rattle.schedule_file.specs.declared.schedule.Seat.{Seat}
use Rattle.schedule_file.specs.Command.{NamedCommand}

-- a command as it is run; managers are given by the indices of their seats among those of their kind, counted from 0,
-- and nodes by their indices
abbrev pub SeatCommand : Type 0
SeatCommand = Command ℕ NodePort

-- the managers of a schedule, in the order of their lines: those that are asked, and those that decide by themselves
pub record Managers : Type 0 where
  pub seats : List Seat
  pub deciders : List Seat

-- the managers that are asked and those that decide by themselves
abbrev pub managers_in : List Seat → List Seat → Managers
managers_in seats deciders = record { seats = seats; deciders = deciders }

-- the index of the manager with the name `name`; None if no manager has this name
abbrev pub seat_of : List Seat → List ℕ → Option ℕ
seat_of seats name = position (λ seat. bytes_eq seat.name name) seats

-- whether a manager of `seats` sits at the port `p`
abbrev pub is_taken : List Seat → NodePort → Bool
is_taken seats p = list_any (λ seat. is_same_port seat.at p) seats

-- whether a manager may sit at the port `port` of `node`: the node is not a switch, and the number is from 1 to its
-- port count
abbrev pub may_seat : Node → ℕ → Bool
may_seat node port = not (is_switch node.kind) && is_within port node.ports

-- whether a manager may sit at the port `p`: it is a port of an adapter of `nodes`
abbrev pub is_seat : List Node → NodePort → Bool
is_seat nodes p = option_map_or (λ node. may_seat node p.port) (slice_get nodes p.node) false

-- whether a manager may sit at the port `p`, and none of `known` sits there
abbrev pub is_free : List Node → Managers → NodePort → Bool
is_free nodes known p = is_seat nodes p && not (is_taken known.seats p || is_taken known.deciders p)

-- the port that `name` names, whether or not its node has a port with this number; None if no node has the node name
-- in `name`
abbrev pub port_of : List Node → PortName → Option NodePort
port_of nodes name = option_map (λ id. record { node = id; port = name.port }) (id_of nodes name.node)

-- whether one of `known` has the name `name`
abbrev pub is_named : Managers → List ℕ → Bool
is_named known name = is_some (seat_of known.seats name) || is_some (seat_of known.deciders name)

-- whether a manager of the name `name` decides by itself
abbrev pub is_decider : Managers → List ℕ → Bool
is_decider known name = is_some (seat_of known.deciders name)

-- whether the command asks a manager that decides by itself for something, or is to pause or resume one that does not
abbrev pub mistakes : Managers → NamedCommand → Bool
mistakes known (command.Ask name what) = is_decider known name
mistakes known (command.Timeout name) = is_decider known name
mistakes known (command.Floor name floor) = is_decider known name
mistakes known (command.Merge one other) = is_decider known one || is_decider known other
mistakes known (command.Pause name) = is_some (seat_of known.seats name)
mistakes known (command.Resume name) = is_some (seat_of known.seats name)
mistakes known named = false

-- the command that shows `what` of the manager with the name `name`; None if no manager has this name
abbrev pub shown_in : Managers → List ℕ → Shown → Option SeatCommand
shown_in known name what =
    option_map_or (λ seat. Some (command.Show seat what))
    (seat_of known.seats name) (option_map (λ seat. command.ShowDecider seat what) (seat_of known.deciders name))

-- the command with its names resolved; None if a manager's or a node's name is unknown
abbrev pub command_of : List Node → Managers → NamedCommand → Option SeatCommand
command_of nodes known (command.Manager name) = option_map command.Manager (seat_of known.seats name)
command_of nodes known (command.Decider name) = option_map command.Decider (seat_of known.deciders name)
command_of nodes known (command.Ask name what) = option_map (λ seat. command.Ask seat what) (seat_of known.seats name)
command_of nodes known (command.Timeout name) = option_map command.Timeout (seat_of known.seats name)
command_of nodes known (command.Floor name floor) =
    option_map (λ seat. command.Floor seat floor) (seat_of known.seats name)
command_of nodes known (command.Merge one other) =
    option_and_then (λ a. option_map (command.Merge a) (seat_of known.seats other)) (seat_of known.seats one)
command_of nodes known (command.Show name what) = shown_in known name what
command_of nodes known (command.ShowDecider name what) =
    option_map (λ seat. command.ShowDecider seat what) (seat_of known.deciders name)
command_of nodes known (command.Pause name) = option_map command.Pause (seat_of known.deciders name)
command_of nodes known (command.Resume name) = option_map command.Resume (seat_of known.deciders name)
command_of nodes known (command.Wait time most) = Some (command.Wait time most)
command_of nodes known (command.Packet which fate) = Some (command.Packet which fate)
command_of nodes known (command.Drain most) = Some (command.Drain most)
command_of nodes known (command.Cut p) = option_map command.Cut (port_of nodes p)
command_of nodes known (command.Plug p q) =
    option_and_then (λ a. option_map (command.Plug a) (port_of nodes q)) (port_of nodes p)
command_of nodes known (command.Ping p lid) = option_map (λ a. command.Ping a lid) (port_of nodes p)
command_of nodes known command.Traps = Some command.Traps
command_of nodes known command.Resend = Some command.Resend
command_of nodes known command.Tables = Some command.Tables
command_of nodes known command.Flight = Some command.Flight

-- the given command, or the fault of the line `number` if the command is None, since a name in it is unknown
abbrev pub where_known : ℕ → Option SeatCommand → Result SeatCommand ScheduleFault
where_known number (Some command) = Ok command
where_known number None = Err (fault.Name number)

-- the command with its names resolved, or the fault of the line `number`: the command is for managers of the other kind,
-- or a name in it is unknown
abbrev pub resolved : List Node → Managers → ℕ → NamedCommand → Result SeatCommand ScheduleFault
resolved nodes known number named =
    if mistakes known named then Err (fault.Decides number) else where_known number (command_of nodes known named)
