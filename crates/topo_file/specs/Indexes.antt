-- The indexes of nodes by name, and of the other ends of links by port.
use Rattle.std.specs.Prelude.{◌≡◌, ◌≤◌, ℕ, List, length}
use Rattle.std.specs.BTreeMap.{BTreeMap, get}
use Rattle.std.specs.Cmp.Lexicographic.{slice_cmp}
use Rattle.std.specs.Ordering.{nat_cmp}
use Rattle.smp_bytes.specs.Ports.{node_port_cmp}
use Rattle.fabric_model.specs.declared.cable.Cable.{Cable}
use Rattle.fabric_model.specs.declared.cable.NodePort.{NodePort}
use Rattle.topo_file.specs.declared.node.Node.{Node}
use Rattle.fabric_model.specs.Cables.{other_end}
use Rattle.topo_file.specs.Topology.{id_of}

-- `nodes` has at most 1,024 nodes, and the index `ids` has the id of each node by its name, and no other names
pub record HasIds (nodes : List Node) (ids : BTreeMap (List ℕ) ℕ) : Type 0 where
  pub few : length nodes ≤ 1024
  pub found : (name : List ℕ) → get (slice_cmp nat_cmp) ids name ≡ id_of nodes name

-- the index `across` has, for each port with a link of `links`, the other end of that link, and no other ports
abbrev pub HasEnds : List Cable → BTreeMap (ℕ × ℕ) NodePort → Type 0
HasEnds links across = (p : NodePort) → get node_port_cmp across (p.node, p.port) ≡ other_end links p
