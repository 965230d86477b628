-- The calls of a fabric that change no cable, one after the other.
use Rattle.std.specs.Prelude.{ℕ, Bool, false, List, [], ◌∷◌, ◌==◌}
use Rattle.fabric_model.specs.declared.cable.NodePort.{NodePort}
use Rattle.fabric_sim.specs.declared.packet.Packet.{Packet}
use Rattle.fabric_sim.specs.Simulation.{Simulation}
use Rattle.fabric_sim.specs.Delivery.{after_deliver}
use Rattle.fabric_sim.specs.Changes.{after_inject, after_repeat, after_lose, after_seat}

-- a call of a fabric that changes no cable
pub data Call : Type 0 where
  Inject : (from : NodePort) (packet : Packet) → Call
  Deliver : (serial : ℕ) → Call
  Lose : (serial : ℕ) → Call
  Repeat : (serial : ℕ) → Call
  Seat : (at : NodePort) → Call

-- the fabric after the call, whether or not it is refused
abbrev pub after_call : Simulation → Call → Simulation
after_call s (Inject from packet) = (after_inject s from packet).fabric
after_call s (Deliver serial) = (after_deliver s serial).fabric
after_call s (Lose serial) = (after_lose s serial).fabric
after_call s (Repeat serial) = (after_repeat s serial).fabric
after_call s (Seat at) = (after_seat s at).fabric

-- the fabric after calls, one after the other
abbrev pub after_calls : List Call → Simulation → Simulation
after_calls [] s = s
after_calls (call ∷ calls) s = after_calls calls (after_call s call)

-- whether the call delivers the packet with the serial number `serial`
abbrev pub is_delivery_of : ℕ → Call → Bool
is_delivery_of serial (Deliver other) = other == serial
is_delivery_of serial (Inject from packet) = false
is_delivery_of serial (Lose other) = false
is_delivery_of serial (Repeat other) = false
is_delivery_of serial (Seat at) = false
