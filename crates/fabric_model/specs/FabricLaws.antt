-- Laws of packets in a fabric: a packet for a LID is delivered or lost, and a directed walk goes on port by port.
use Rattle.std.specs.Prelude.{◌≡◌, ℕ, List, [], ◌∷◌, ◌++◌, option_and_then, ◌⊎◌}
use Rattle.fabric_model.specs.declared.cable.NodePort.{NodePort}
use Rattle.fabric_model.specs.Fabric.{Fabric}
use Rattle.fabric_model.specs.Forwarding.{Hop, IsDelivered, IsLost}
use Rattle.fabric_model.specs.DirectedWalk.{on_by, directed_end}

-- each packet for a LID is either delivered at a port or lost at a node, and never both
abbrev pub PacketsEndOnce : Type 0
PacketsEndOnce = (f : Fabric) (lid : ℕ) (source : NodePort)
    → (((hops : List Hop) × (target : NodePort) × IsDelivered f lid source hops target)
    ⊎ ((hops : List Hop) × (node : ℕ) × IsLost f lid source hops node))
    × ((hops others : List Hop) (target : NodePort) (node : ℕ) → IsDelivered f lid source hops target
    → IsLost f lid source others node → ⊥)

-- if the port `out` is appended to a path of at least one port, the longer path leads on from the end of the shorter
-- path by the cable in `out` (`on_by`). It leads nowhere if the shorter path leads nowhere, if the end of the shorter
-- path is not at a switch, or if no cable is in `out` there
abbrev pub WalksGoOn : Type 0
WalksGoOn = (f : Fabric) (origin : NodePort) (first : ℕ) (path : List ℕ) (out : ℕ)
    → directed_end f origin ((first ∷ path) ++ out ∷ [])
    ≡ option_and_then (on_by f out) (directed_end f origin (first ∷ path))
