-- Directed walks: where a directed path leads. InfiniBand Architecture Specification, Volume 1: subnet management,
-- directed routes.
use Rattle.std.specs.Prelude.{ℕ, List, [], ◌∷◌, Option, None, Some, option_and_then, if◌then◌else◌}
use Rattle.fabric_model.specs.declared.cable.NodePort.{NodePort}
use Rattle.fabric_model.specs.Fabric.{Fabric, is_switch_at}

-- the port that the cable in port `out` of the node of `p` leads to; None if that port has no cable, or if the node is
-- not a switch. Only switches pass directed packets on
abbrev pub on_by : Fabric → ℕ → NodePort → Option NodePort
on_by f out p = if is_switch_at f p.node then f.across (record { node = p.node; port = out }) else None

-- the port where a directed walk arrives if it goes on from port `p` along the ports of a path; `p` itself if the
-- path is empty. None if the walk breaks off. It does if a node that has to pass the packet on is not a switch, or if
-- a port of the path has no cable
abbrev pub walk_on : Fabric → NodePort → List ℕ → Option NodePort
walk_on f p [] = Some p
walk_on f p (out ∷ path) = option_and_then (λ q. walk_on f q path) (on_by f out p)

-- the port where a directed walk from `origin` along the ports of a path arrives; `origin` itself if the path is
-- empty. None if the walk breaks off. The node of `origin` need not be a switch
abbrev pub directed_end : Fabric → NodePort → List ℕ → Option NodePort
directed_end f origin [] = Some origin
directed_end f origin (out ∷ path) =
    option_and_then (λ q. walk_on f q path) (f.across (record { node = origin.node; port = out }))
