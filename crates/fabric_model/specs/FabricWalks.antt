-- Which ports of a fabric are joined: the wires between them, and walks along wires. InfiniBand Architecture
-- Specification, Volume 1: architectural overview, topology: channel adapters and switches joined by links.
use Rattle.std.specs.Prelude.{◌≡◌, ◌≢◌, ◌⊎◌, ℕ, zero, suc, Some, IsTrue, if◌then◌else◌}
use Rattle.fabric_model.specs.declared.cable.NodePort.{NodePort}
use Rattle.fabric_model.specs.Fabric.{Fabric, IsEndPort, is_switch_at}

-- a cable joins the ports `p` and `q`, which are different ports
pub record IsWire (f : Fabric) (p q : NodePort) : Type 0 where
  pub cable : f.across p ≡ Some q
  pub different : p ≢ q

-- the vertex that port `p` belongs to: port 0 of its switch, or the port itself at another node
abbrev pub vertex_of : Fabric → NodePort → NodePort
vertex_of f p = if is_switch_at f p.node then record { node = p.node; port = 0 } else p

-- a wire leads from a port of vertex `a` to a port of vertex `b`
pub record AreNeighbors (f : Fabric) (a b : NodePort) : Type 0 where
  pub out : NodePort
  pub into : NodePort
  pub wire : IsWire f out into
  pub of_one : vertex_of f out ≡ a
  pub of_other : vertex_of f into ≡ b

-- a walk along a given number of wires leads from vertex `a` to vertex `b`, with only switches between them
abbrev pub Walk : Fabric → NodePort → NodePort → ℕ → Type 0
Walk f a b zero = a ≡ b
Walk f a b (suc n) = (c : NodePort) × AreNeighbors f a c × ((n ≡ 0) ⊎ IsTrue (is_switch_at f c.node)) × Walk f c b n

-- in a fabric, vertex `a` is joined to vertex `b`: some walk along wires leads from `a` to `b`
abbrev pub IsJoinedTo : Fabric → NodePort → NodePort → Type 0
IsJoinedTo f a b = (n : ℕ) × Walk f a b n

-- any two end ports of the fabric are joined
abbrev pub IsConnected : Fabric → Type 0
IsConnected f = (a b : NodePort) → IsEndPort f a → IsEndPort f b → IsJoinedTo f a b
