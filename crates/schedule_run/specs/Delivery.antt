-- What becomes of a packet in flight that takes a step: it moves on, or comes to a manager.
use Rattle.std.specs.Prelude.{ℕ, List, [], position, slice_get, if◌then◌else◌, Option, None, Some, Result, Ok, Err}
use Rattle.std.specs.Option.{option_map_or}
use Rattle.fabric_model.specs.Cables.{is_same_port}
use Rattle.fabric_model.specs.declared.cable.NodePort.{NodePort}
use Rattle.fabric_sim.specs.Delivery.{after_deliver}
use Rattle.fabric_sim.specs.Simulation.{is_seat_at}
use Rattle.fabric_sim.specs.declared.delivered.Delivered.{Delivered}
use Rattle.fabric_sim.specs.declared.delivered.Delivered.TheVariants as delivered_is
use Rattle.fabric_sim.specs.declared.fabric_fault.FabricFault.{FabricFault}
use Rattle.fabric_sim.specs.declared.packet.Packet.{Packet}
use Rattle.sm_manager.specs.Packets as manager
use Rattle.schedule_lines.specs.Lines.{trap_text}
use Rattle.schedule_lines.specs.Outcome.{Outcome, and_then, quiet, shows}
use Rattle.schedule_run.specs.Deciders.{after_hearing}
use Rattle.schedule_run.specs.World.{WorldValue, after_ask, after_fabric_call, after_send}

-- if `packet` is a trap that the manager of a seat represses, the line of the trap; else empty
abbrev pub heard_text : WorldValue → ℕ → Packet → List ℕ
heard_text w seat packet =
    option_map_or (λ s. trap_text (Some s.name) (manager.noted_trap s.manager packet.bytes)) (slice_get w.managers seat) []

-- the manager of a seat takes in a packet; if the packet is a trap that the manager represses, the trap's line is
-- printed. If the manager refuses the packet, the line of the fault is printed instead. Nothing happens if there is
-- no such manager
abbrev pub after_take : WorldValue → ℕ → Packet → Outcome WorldValue
after_take w seat packet =
    after_ask (shows (heard_text w seat packet)) w seat (λ m. (manager.after_packet m packet.bytes (Some packet.slid)).fault)
    (λ m. (manager.after_packet m packet.bytes (Some packet.slid)).manager)

-- the manager of a seat takes in a packet, or refuses it; then the packets that the manager has queued are sent
unfoldable pub after_take_and_send : WorldValue → ℕ → Packet → Outcome WorldValue
after_take_and_send w seat packet = and_then (after_take w seat packet) (λ now. after_send now seat)

-- the index of the manager that is asked and sits at the port `p`; None if none sits there
abbrev pub seat_at : WorldValue → NodePort → Option ℕ
seat_at w p = if is_seat_at w.fabric p then position (λ s. is_same_port s.at p) w.managers else None

-- a packet that is handed up at the port `p` goes to the manager there that is asked; if none sits there, to the one
-- there that decides by itself; and if none of these is there either, the packet is dropped
unfoldable pub after_hand_up : WorldValue → NodePort → Packet → Outcome WorldValue
after_hand_up w p packet =
    option_map_or (λ seat. after_take_and_send w seat packet) (seat_at w p) (after_hearing w p packet)

-- the outcome of a delivery: a packet that is handed up goes to the manager at the port; any other delivery leaves
-- the world `w` as it is
abbrev pub after_arrival : WorldValue → Result Delivered FabricFault → Outcome WorldValue
after_arrival w (Ok (delivered_is.ToManager p packet)) = after_hand_up w p packet
after_arrival w (Ok (delivered_is.Moved serial)) = quiet w
after_arrival w (Ok (delivered_is.Answered serial)) = quiet w
after_arrival w (Ok (delivered_is.Discarded reason)) = quiet w
after_arrival w (Err fault) = quiet w

-- the packet with the number `serial` takes one step; if the packet is handed up, it goes to the manager at the port.
-- If the fabric refuses the step, the line of the fault is printed instead
unfoldable pub after_step : WorldValue → ℕ → Outcome WorldValue
after_step w serial = let called =
    after_deliver w.fabric serial in and_then (after_fabric_call w called) (λ now. after_arrival now called.result)
