-- Packets to be sent: the first is sent, and then the others.
use Rattle.std.proofs.Common.{◌≡◌, None, Some, ap}
use Rattle.fabric_model.specs.declared.cable.NodePort.{NodePort}
use Rattle.fabric_sim.specs.Changes.{after_inject}
use Rattle.fabric_sim.specs.Simulation.{Simulation}
use Rattle.sm_manager.specs.declared.outgoing.Outgoing.{Outgoing}
use Rattle.sm_manager.specs.Manager.{Manager, after_take_outgoing}
use Rattle.schedule_run.specs.NamedPackets.{packet_out}
use Rattle.schedule_lines.specs.Outcome.{and_then, quiet}
use Rattle.sm_manager.proofs.Taking.{first_is, none_is}
use Rattle.schedule_run.specs.World.{after_fabric, after_inject_all}

-- the first packet of a queue, and those after it
pub first_goes : (m left : Manager) (out : Outgoing) (fabric : Simulation) (at : NodePort) → Some out ≡ (after_take_outgoing m).packet → left
    ≡ (after_take_outgoing m).manager
    → after_inject_all fabric at m.outgoing ≡ and_then (after_fabric (after_inject fabric at (packet_out out))) (λ now. after_inject_all now at left.outgoing)
first_goes m left out fabric at e same = ap (after_inject_all fabric at) (first_is m left out e same)

-- none is left
pub none_goes : (m : Manager) (fabric : Simulation) (at : NodePort) → (after_take_outgoing m).packet ≡ None → after_inject_all fabric at m.outgoing
    ≡ quiet fabric
none_goes m fabric at e = ap (after_inject_all fabric at) (none_is m e)
