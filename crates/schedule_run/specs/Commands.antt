-- What each line of a schedule does, what it prints, and what a run prints.
use Rattle.std.specs.Prelude.{ℕ, zero, suc, ◌+◌, ◌==◌, true, false, List, [], ◌∷◌, length, map, slice_get, if◌then◌else◌}
use Rattle.std.specs.Prelude.{Option, None, Some, Result, Ok, Err}
use Rattle.std.specs.List.{flat_map}
use Rattle.std.specs.Option.{option_map_or}
use Rattle.fabric_model.specs.declared.cable.NodePort.{NodePort}
use Rattle.topo_file.specs.Topology.{Layout}
use Rattle.topo_file.specs.declared.node.Node.{Node}
use Rattle.schedule_file.specs.Manner.{newest_of, sm_key_of}
use Rattle.schedule_file.specs.Resolve.{SeatCommand}
use Rattle.schedule_file.specs.declared.command.Ask.{Ask}
use Rattle.schedule_file.specs.declared.command.Command.TheVariants as command
use Rattle.schedule_file.specs.declared.command.Fate.{Fate}
use Rattle.schedule_file.specs.declared.command.Fate.TheVariants.{Deliver, Lose, Repeat}
use Rattle.schedule_file.specs.declared.command.Shown.{Shown}
use Rattle.schedule_file.specs.declared.command.Which.{Which}
use Rattle.schedule_file.specs.declared.schedule.Seat.{Seat}
use Rattle.fabric_sim.specs.Build.{simulation_of}
use Rattle.fabric_sim.specs.Changes.{after_cut, after_lose, after_seat, after_plug, after_repeat}
use Rattle.fabric_sim.specs.FabricFault.{fabric_fault_name}
use Rattle.fabric_sim.specs.Ping.{ping, ping_fault}
use Rattle.fabric_sim.specs.Simulation.{Simulation, across, fabric_of, port_of}
use Rattle.fabric_sim.specs.TrapSending.{after_begin_traps, after_port_change, after_send_trap}
use Rattle.fabric_sim.specs.declared.fabric_fault.FabricFault.{FabricFault}
use Rattle.fabric_sim.specs.declared.fabric_fault.FabricFault.TheVariants.{NoSuchPacket}
use Rattle.fabric_sim.specs.declared.flight.Flight.{Flight}
use Rattle.lft_blocks.specs.Planning.{Planning}
use Rattle.sm_manager.specs.Manager.{Manager, after_raise_floor, after_merge, new_manager, outstanding}
use Rattle.sm_manager.specs.Packets as manager
use Rattle.sm_policy.specs.declared.timing.Timing.{Timing}
use Rattle.request_window.specs.declared.limits.Limits.{Limits}
use Rattle.serve_run.specs.Acting.{new_acting}
use Rattle.schedule_run.specs.NamedPackets.{serial_of}
use Rattle.schedule_lines.specs.ManagerAsks.{after_asked, asked_fault, text_of}
use Rattle.schedule_lines.specs.Lines.{flight_line, ping_line}
use Rattle.schedule_lines.specs.Refusals.{refusal_line}
use Rattle.schedule_lines.specs.Tables.{tables_text}
use Rattle.schedule_lines.specs.Outcome.{Outcome, and_then, quiet, shows}
use Rattle.sm_state.specs.Conduct.{conduct_with}
use Rattle.schedule_run.specs.Deciders.{after_decider_line, after_pause_line, decider_shown}
use Rattle.schedule_run.specs.Delivery.{after_step}
use Rattle.schedule_run.specs.Waiting.{after_wait_line}
use Rattle.schedule_run.specs.World.{DeciderValue, SeatedValue, WorldValue, after_ask, at_seat, after_fabric_call, after_send}
use Rattle.schedule_run.specs.World.{with_manager}

-- managers -----------------------------------------------------------------------------------------

-- `manager M "n"[p] P`, with `live K` or without: the manager at the index `seat` is seated at its port or, if the
-- fabric refuses the call, the line of the fault is printed. Nothing happens if there is no such manager
unfoldable pub after_manager_line : WorldValue → ℕ → Outcome WorldValue
after_manager_line w seat = at_seat w seat (λ s. after_fabric_call w (after_seat w.fabric s.at))

-- `sweep`, `write`, `handover` or `poll`: the request is made to the manager of a seat, and then the packets that the
-- manager has queued are sent; if the manager refuses the request, the line of the fault is printed instead. Nothing
-- happens if there is no such manager
unfoldable pub after_ask_line : WorldValue → ℕ → Ask → Outcome WorldValue
after_ask_line w seat what = after_ask (λ now. after_send now seat) w seat (asked_fault what) (after_asked what)

-- `merge M N`: the manager M takes in all facts and the floor of the manager N
unfoldable pub after_merge_line : WorldValue → ℕ → ℕ → Outcome WorldValue
after_merge_line w seat other =
    at_seat w seat (λ s. at_seat w other (λ o. quiet (with_manager w seat s (after_merge s.manager o.manager.store))))

-- `floor M G`: if the floor of the manager M is below G, it is raised to G, and facts of generations below G are
-- forgotten
unfoldable pub after_floor_line : WorldValue → ℕ → ℕ → Outcome WorldValue
after_floor_line w seat floor = at_seat w seat (λ s. quiet (with_manager w seat s (after_raise_floor s.manager floor)))

-- the manager of a seat gives up the request with the TransactionID `transaction`; if the manager refuses to, the
-- line of the fault is printed. Nothing happens if there is no such manager
unfoldable pub after_give_up : WorldValue → ℕ → ℕ → Outcome WorldValue
after_give_up w seat transaction =
    after_ask quiet w seat (λ m. (manager.after_timeout m transaction).fault)
    (λ m. (manager.after_timeout m transaction).manager)

-- the manager of a seat gives up the requests of a list of TransactionIDs, one after the other
abbrev pub after_giving_up : WorldValue → ℕ → List ℕ → Outcome WorldValue
after_giving_up w seat [] = quiet w
after_giving_up w seat (transaction ∷ later) =
    and_then (after_give_up w seat transaction) (λ now. after_giving_up now seat later)

-- `timeout M`: the manager gives up all requests that are outstanding when the line begins, and then sends the
-- packets that it has queued
unfoldable pub after_timeout_line : WorldValue → ℕ → Outcome WorldValue
after_timeout_line w seat =
    at_seat w seat (λ s. and_then (after_giving_up w seat (outstanding s.manager)) (λ now. after_send now seat))

-- packets ------------------------------------------------------------------------------------------

-- the packet with the number `serial` takes one step (`deliver`), is lost (`lose`) or is copied (`repeat`)
abbrev pub after_fate : WorldValue → Fate → ℕ → Outcome WorldValue
after_fate w Deliver serial = after_step w serial
after_fate w Lose serial = after_fabric_call w (after_lose w.fabric serial)
after_fate w Repeat serial = after_fabric_call w (after_repeat w.fabric serial)

-- `deliver`, `lose` or `repeat`: the packet that `which` names takes one step, is lost or is copied. If the last
-- packet is named and no packet is in flight, the line of a refusal is printed
unfoldable pub after_packet_line : WorldValue → Which → Fate → Outcome WorldValue
after_packet_line w which fate =
    option_map_or (after_fate w fate) (serial_of w.fabric.flights which)
    (shows (refusal_line (fabric_fault_name NoSuchPacket)) w)

-- `drain N`: up to N times, the packet in flight with the least serial number takes one step; no more steps once no
-- packet is in flight
abbrev pub after_drain_line : WorldValue → ℕ → Outcome WorldValue
after_drain_line w zero = quiet w
after_drain_line w (suc most) =
    option_map_or (λ flight. and_then (after_step w flight.serial) (λ now. after_drain_line now most))
    (slice_get w.fabric.flights 0) (quiet w)

-- the line of a packet in flight, with the node where it waits
abbrev pub flight_shown : List Node → Flight → List ℕ
flight_shown nodes flight = flight_line nodes flight.serial (port_of flight.whereabouts).node

-- `flight`: the lines of all packets in flight
abbrev pub flights_text : List Node → List Flight → List ℕ
flights_text nodes flights = flat_map (flight_shown nodes) flights

-- cables and ports -----------------------------------------------------------------------------------

-- the agent of the node `id` is informed that the state of one of its ports has changed
abbrev pub after_tell : WorldValue → ℕ → Outcome WorldValue
after_tell w id = after_fabric_call w (after_port_change w.fabric id)

-- the agents of the nodes at both ends of a cable, `p` and `q`, are informed, that at `p` first; a node at both ends
-- is informed once
unfoldable pub after_tell_ends : WorldValue → NodePort → NodePort → Outcome WorldValue
after_tell_ends w p q =
    and_then (after_tell w p.node) (λ now. if q.node == p.node then quiet now else after_tell now q.node)

-- if the given result says that a cable was plugged in between `p` and `q`, the agents at `p` and `q` are informed;
-- otherwise nothing happens
abbrev pub after_change : WorldValue → NodePort → NodePort → Result (Unit {0}) FabricFault → Outcome WorldValue
after_change w p q (Ok done) = after_tell_ends w p q
after_change w p q (Err fault) = quiet w

-- if the given result says that the cable in `p` was cut, the agents at `p` and at the other end of the cable are
-- informed; otherwise nothing happens
abbrev pub after_parting : WorldValue → NodePort → Option NodePort → Result (Unit {0}) FabricFault → Outcome WorldValue
after_parting w p other (Ok done) = option_map_or (after_tell_ends w p) other (quiet w)
after_parting w p other (Err fault) = quiet w

-- `cut "n"[p]`: the cable in the port is cut, and the agents at both ends of the cable are informed; if the fabric
-- refuses, the line of the fault is printed instead
unfoldable pub after_cut_line : WorldValue → NodePort → Outcome WorldValue
after_cut_line w p = let called = after_cut w.fabric p in
    and_then (after_fabric_call w called) (λ now. after_parting now p (across w.fabric.peers p) called.result)

-- `plug "n"[p] "m"[q]`: a cable is plugged into the two ports, and the agents at both ends of the cable are informed;
-- if the fabric refuses, the line of the fault is printed instead
unfoldable pub after_plug_line : WorldValue → NodePort → NodePort → Outcome WorldValue
after_plug_line w p q = let called =
    after_plug w.fabric p q in and_then (after_fabric_call w called) (λ now. after_change now p q called.result)

-- traps ----------------------------------------------------------------------------------------------

-- `traps`: switches send traps from now on
unfoldable pub after_traps_line : WorldValue → Outcome WorldValue
after_traps_line w = after_fabric_call w (after_begin_traps w.fabric)

-- if a trap waits at the node `id` and can leave, and a serial number is left, the trap is sent again
abbrev pub after_resend : WorldValue → ℕ → Outcome WorldValue
after_resend w id = after_fabric_call w (after_send_trap w.fabric id)

-- the traps that wait at `left` consecutive nodes, of which `id` is the first, are sent again (`after_resend`)
abbrev pub after_resends : WorldValue → ℕ → ℕ → Outcome WorldValue
after_resends w id zero = quiet w
after_resends w id (suc left) = and_then (after_resend w id) (λ now. after_resends now (id + 1) left)

-- `resend`: each trap that waits and can leave is sent again, in the order of the nodes (`after_resend`)
abbrev pub after_resend_line : WorldValue → Outcome WorldValue
after_resend_line w = after_resends w 0 (length w.fabric.agents)

-- `ping "n"[p] L`: the line that says where the packet ends or, if there is a fault, the line that says why it cannot
-- be sent
abbrev pub ping_text : List Node → Simulation → NodePort → ℕ → Option FabricFault → List ℕ
ping_text nodes fabric source lid None = ping_line nodes source lid (ping (fabric_of fabric) lid source)
ping_text nodes fabric source lid (Some fault) = refusal_line (fabric_fault_name fault)

-- what `ping "n"[p] L` prints in the world `w`: where the packet ends, or why it cannot be sent
unfoldable pub ping_shown : List Node → WorldValue → NodePort → ℕ → List ℕ
ping_shown nodes w source lid = ping_text nodes w.fabric source lid (ping_fault w.fabric source)

-- what managers know -----------------------------------------------------------------------------------

-- what `facts`, `plan`, `progress`, `silent`, `written` or `state` shows about a manager
abbrev pub shown_at : Shown → SeatedValue → List ℕ
shown_at what s = text_of what (Some s.name) s.manager

-- what is shown about the manager of a seat; empty if there is no such manager
unfoldable pub shown_of : WorldValue → ℕ → Shown → List ℕ
shown_of w seat what = option_map_or (shown_at what) (slice_get w.managers seat) []

-- all commands -----------------------------------------------------------------------------------------

-- what a line of a schedule does and prints, in a fabric with `nodes`
abbrev pub after_command : List Node → WorldValue → SeatCommand → Outcome WorldValue
after_command nodes w (command.Manager seat) = after_manager_line w seat
after_command nodes w (command.Decider index) = after_decider_line w index
after_command nodes w (command.Ask seat what) = after_ask_line w seat what
after_command nodes w (command.Timeout seat) = after_timeout_line w seat
after_command nodes w (command.Floor seat floor) = after_floor_line w seat floor
after_command nodes w (command.Merge seat other) = after_merge_line w seat other
after_command nodes w (command.Show seat what) = shows (shown_of w seat what) w
after_command nodes w (command.ShowDecider index what) = shows (decider_shown w index what) w
after_command nodes w (command.Pause index) = after_pause_line w index false
after_command nodes w (command.Resume index) = after_pause_line w index true
after_command nodes w (command.Wait wait most) = after_wait_line w wait most
after_command nodes w (command.Packet which fate) = after_packet_line w which fate
after_command nodes w (command.Drain most) = after_drain_line w most
after_command nodes w (command.Cut p) = after_cut_line w p
after_command nodes w (command.Plug p q) = after_plug_line w p q
after_command nodes w (command.Ping p lid) = shows (ping_shown nodes w p lid) w
after_command nodes w command.Traps = after_traps_line w
after_command nodes w command.Resend = after_resend_line w
after_command nodes w command.Tables = shows (tables_text w.fabric) w
after_command nodes w command.Flight = shows (flights_text nodes w.fabric.flights) w

-- what lines of a schedule do and print, one after the other
abbrev pub after_commands : List Node → WorldValue → List SeatCommand → Outcome WorldValue
after_commands nodes w [] = quiet w
after_commands nodes w (command ∷ later) =
    and_then (after_command nodes w command) (λ now. after_commands nodes now later)

-- the port GUID of a manager's port: the GUID of the adapter plus the number of the port
abbrev pub guid_at : List Node → NodePort → ℕ
guid_at nodes p = option_map_or (λ node. node.guid + p.port) (slice_get nodes p.node) 0

-- the manager of `seat` before any call. It plans as `planning` says, and its conduct is live if the seat has an SM_Key
abbrev pub manager_of : Planning → List Node → Seat → Manager
manager_of planning nodes seat =
    new_manager (guid_at nodes seat.at) seat.at.port seat.priority (conduct_with (sm_key_of seat.manner)) planning

-- the manager of `seat`, which is asked, before any call, with its name
abbrev pub new_seated : Planning → List Node → Seat → SeatedValue
new_seated planning nodes seat =
    record { name = seat.name; at = seat.at; manager = manager_of planning nodes seat }

-- how often managers that decide by themselves do what, and how many requests they have out: as `ibsm manage` without
-- options
abbrev pub usual_timing : Timing
usual_timing = record { every = 10000; poll = 1000; is_strict = false }

abbrev pub usual_limits : Limits
usual_limits = record { outstanding = 4; tries = 4; timeout = 500 }

-- the manager of `seat`, which decides by itself, before it is told anything, with its name. It is not awake yet
abbrev pub new_decider : Planning → List Node → Seat → DeciderValue
new_decider planning nodes seat =
    let newest = option_map_or (λ newest. newest) (newest_of seat.manner) 0 in
    record {
      name = seat.name;
      at = seat.at;
      acting = new_acting (manager_of planning nodes seat) usual_timing usual_limits newest;
      is_awake = false;
    }

-- the fabric of a topology, whose first packet has the serial number 1, and a manager for each seat. The time is 1
abbrev pub world_of : Planning → Layout → List Seat → List Seat → WorldValue
world_of planning topology seats deciders =
    record {
      fabric = simulation_of topology 1;
      managers = map (new_seated planning topology.nodes) seats;
      deciders = map (new_decider planning topology.nodes) deciders;
      time = 1;
    }
