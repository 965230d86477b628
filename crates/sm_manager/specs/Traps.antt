-- Traps, and how a manager of the live conduct represses them: once the manager's answer has arrived, the agent does
-- not repeat the trap. InfiniBand Architecture Specification, Volume 1: subnet management, traps; management methods
-- (TrapRepress).
use Rattle.std.specs.Prelude.{ℕ, Bool, ◌&&◌, not, List, [], ◌∷◌, ◌++◌, ◌==◌, Option}
use Rattle.smp_bytes.specs.Field.{Field, bytes_in, number_in}
use Rattle.smp_bytes.specs.Packet.{attribute_data, attribute_id, attribute_modifier, is_directed}
use Rattle.smp_bytes.specs.Packet.{method, transaction_id}
use Rattle.smp_bytes.specs.Requests.{lid_routed}
use Rattle.sm_manager.specs.declared.outgoing.Outgoing.{Outgoing}
use Rattle.sm_manager.specs.declared.traps.Trap.{Trap}
use Rattle.sm_manager.specs.Manager.{Manager}
use Rattle.sm_state.specs.Conduct.{is_live}

-- the method Trap
abbrev pub trap : ℕ
trap = 0x05

-- the method TrapRepress
abbrev pub trap_repress : ℕ
trap_repress = 0x07

-- whether the manager represses `packet`: its conduct is live, and the packet is a Trap by LIDs
abbrev pub represses : Manager → List ℕ → Bool
represses m packet = is_live m.standing.conduct && (number_in method packet == trap && not (is_directed packet))

-- the TrapRepress for the trap `packet`, to be sent to `from`, the LID of the sender. It has the attribute, modifier,
-- TransactionID and data of the trap
abbrev pub repress_out : List ℕ → Option ℕ → Outgoing
repress_out packet from =
    record {
      packet = lid_routed trap_repress (number_in attribute_id packet) (number_in attribute_modifier packet)
          (number_in transaction_id packet) (bytes_in attribute_data packet);
      to = from;
    }

-- the field of a trap's packet that has the LID of the notice's issuer
abbrev pub issuer_lid : Field
issuer_lid = record { at = 70; len = 2 }

-- the content of the trap in `packet`
abbrev pub trap_in : List ℕ → Trap
trap_in packet = record { issuer = number_in issuer_lid packet }

-- the manager once the TrapRepress for `packet` is queued
abbrev pub repressing : Manager → List ℕ → Option ℕ → Manager
repressing m packet from = record m { outgoing = m.outgoing ++ repress_out packet from ∷ [] }
