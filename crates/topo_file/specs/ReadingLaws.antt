-- What the nodes and the link lines satisfy after each line.
use Rattle.std.specs.Prelude.{◌≡◌, ◌≢◌, ◌≤◌, ℕ, List, All, Some, length}
use Rattle.std.specs.List.{AllPairs, AllByRecursion}
use Rattle.topo_file.specs.declared.node.Node.{Node}
use Rattle.topo_file.specs.declared.topology_line.LinkLine.{LinkLine}
use Rattle.topo_file.specs.Topology.{IsNode}
use Rattle.topo_file.specs.Reading.{Lines}

-- `all` are nodes that a topology may have: at most 1,024, each a node (`IsNode`), with names that differ
pub record AreNodes (all : List Node) : Type 0 where
  pub few : length all ≤ 1024
  pub nodes : All IsNode all
  pub names : AllPairs (λ x y. x.name ≢ y.name) all

-- each port of a link line is at least 1, or is None because it is out of range
pub record IsLinkLine (link : LinkLine) : Type 0 where
  pub port : (p : ℕ) → link.port ≡ Some p → 1 ≤ p
  pub peer_port : (p : ℕ) → link.peer_port ≡ Some p → 1 ≤ p

-- the nodes read so far are nodes that a topology may have. Each port of the links is at least 1, or is None because
-- it is out of range
pub record IsDraft (told : Lines) : Type 0 where
  pub nodes : AreNodes told.nodes
  pub links : AllByRecursion (λ at. IsLinkLine at.link) told.links
