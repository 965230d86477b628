-- Each call keeps all packets on their courses.
use Rattle.std.proofs.Common.{◌≡◌, ℕ, ◌≤◌, true}
use Rattle.std.specs.Prelude.{Ok, Result}
use Rattle.fabric_model.specs.declared.cable.NodePort.{NodePort}
use Rattle.fabric_sim.specs.declared.packet.Packet.{Packet}
use Rattle.fabric_sim.specs.declared.fabric_fault.FabricFault.{FabricFault}
use Rattle.fabric_sim.specs.declared.delivered.Delivered.{Delivered}
use Rattle.fabric_sim.specs.declared.delivered.Delivered.TheVariants as delivered_is
use Rattle.fabric_sim.specs.Simulation.{Simulation, IsSimulation, AreCables, port_count, is_cable_port, is_seat_at}
use Rattle.fabric_sim.specs.Delivery.{after_deliver}
use Rattle.fabric_sim.specs.Changes.{after_emit, after_inject, after_repeat, after_lose}
use Rattle.fabric_sim.specs.Calls.{Inject, Deliver, Lose, Repeat}
use Rattle.fabric_sim.proofs.Carried.{agents_say}
use Rattle.fabric_sim.proofs.Courses.{AnySends, SaysSo, AreOnCourse, IsOnCourse, IsForManager}
use Rattle.fabric_sim.proofs.Kept.{delivered_is as delivered_stays, emitted_is, injected_is, repeated_is, lost_is}
use Rattle.fabric_sim.proofs.TracedCalls.{deliveries_trace, deliveries_hand_up_traced, emissions_trace, injections_trace, copies_trace, losses_trace}
use Rattle.fabric_sim.proofs.TripCalls.{along_call, along_emitted}
use Rattle.fabric_sim.proofs.TripEnds.{keep}
use Rattle.fabric_sim.proofs.TripShapes.{IsAlong}

-- a fabric some calls after another, all of whose packets are on their courses
pub record Carries (start s : Simulation) : Type 0 where
  pub along : IsAlong start s
  pub is : IsSimulation s
  pub flights : AreOnCourse start s.flights

-- what a delivery hands up
abbrev pub HandsUpOnCourse : Simulation → Result Delivered FabricFault → Type 0
HandsUpOnCourse start result = (at : NodePort) (packet : Packet) → result ≡ Ok (delivered_is.ToManager at packet) → IsForManager start at packet.bytes

module _ {start : Simulation} (cables : AreCables start) (counts : (id : ℕ) → port_count start id ≤ 254)
    (s : Simulation) (c : Carries start s) where
  pub deliveries_carry : (n : ℕ) → Carries start (after_deliver s n).fabric
  deliveries_carry n =
      record {
        along = along_call keep s (Deliver n) c.along;
        is = delivered_stays s c.is n;
        flights = deliveries_trace AnySends (SaysSo start) cables counts c.along c.is c.flights n (agents_say c.along c.is n);
      }

  pub deliveries_hand_up : (n : ℕ) → HandsUpOnCourse start (after_deliver s n).result
  deliveries_hand_up n = deliveries_hand_up_traced AnySends (SaysSo start) cables counts c.along c.is c.flights n

  pub injections_carry : (p : NodePort) (packet : Packet) → (is_seat_at s p ≡ true → IsOnCourse start p packet.bytes)
      → Carries start (after_inject s p packet).fabric
  injections_carry p packet on =
      record {
        along = along_call keep s (Inject p packet) c.along;
        is = injected_is s c.is p packet;
        flights = injections_trace AnySends (SaysSo start) cables counts c.along c.is c.flights p packet on;
      }

  pub emissions_carry : (p : NodePort) (packet : Packet) → (is_cable_port s p ≡ true → IsOnCourse start p packet.bytes)
      → Carries start (after_emit s p packet).fabric
  emissions_carry p packet on =
      record {
        along = along_emitted keep s p packet c.along;
        is = emitted_is s c.is p packet;
        flights = emissions_trace AnySends (SaysSo start) cables counts c.along c.is c.flights p packet on;
      }

  pub copies_carry : (n : ℕ) → Carries start (after_repeat s n).fabric
  copies_carry n =
      record {
        along = along_call keep s (Repeat n) c.along;
        is = repeated_is s c.is n;
        flights = copies_trace AnySends (SaysSo start) cables counts c.along c.is c.flights n;
      }

  pub losses_carry : (n : ℕ) → Carries start (after_lose s n).fabric
  losses_carry n =
      record {
        along = along_call keep s (Lose n) c.along;
        is = lost_is s c.is n;
        flights = losses_trace AnySends (SaysSo start) cables counts c.along c.is c.flights n;
      }
