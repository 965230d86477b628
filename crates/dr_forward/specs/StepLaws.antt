-- Laws of a step: by which ports packets leave, and what a step leaves unchanged in a packet.
use Rattle.std.specs.Prelude.{◌≡◌, ℕ, ◌+◌, ◌≤◌, ◌<◌, true, List, length}
use Rattle.smp_bytes.specs.Field.{Field, number_in, are_apart}
use Rattle.smp_bytes.specs.Packet.{hop_pointer}
use Rattle.dr_forward.specs.declared.here.Here.{Here}
use Rattle.dr_forward.specs.declared.verdict.Verdict.TheVariants.{Out, Discard}
use Rattle.dr_forward.specs.declared.verdict.DiscardReason.{DiscardReason}
use Rattle.dr_forward.specs.DirectedStep.{step}

-- a packet that is discarded is unchanged
abbrev pub DiscardedIsUnchanged : Type 0
DiscardedIsUnchanged = (here : Here) (packet : List ℕ) (reason : DiscardReason) → (step here packet).verdict
    ≡ Discard reason → (step here packet).packet ≡ packet

-- a packet that leaves the node leaves by a port from 1 to the node's port count
abbrev pub LeavesByAPort : Type 0
LeavesByAPort = (here : Here) (packet : List ℕ) (port : ℕ) → (step here packet).verdict ≡ Out port → (1 ≤ port)
    × (port ≤ here.ports)

-- if a packet has 256 bytes and its hop pointer is below 64, a step changes no field that ends before the return path
-- and does not overlap the hop pointer
abbrev pub OtherFieldsStay : Type 0
OtherFieldsStay =
    (here : Here) (packet : List ℕ) (field : Field) → length packet ≡ 256 → number_in hop_pointer packet < 64
    → are_apart field hop_pointer ≡ true → field.at + field.len ≤ 192
    → number_in field (step here packet).packet ≡ number_in field packet
