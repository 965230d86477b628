use Rattle.std.proofs.Common.{◌≡◌, take}
use Rattle.std.specs.Prelude.{map}
use Rattle.subnet_view.specs.Graph.{guids_of}
use Rattle.multicast_tree.specs.Tree.{parent_port, position_in}
use Rattle.multicast_tree.proofs.parents.parent_ports.Given as goal

-- the ports of the switches so far
abbrev pub invariant-loop-index : goal.invariant-loop-index
invariant-loop-index l = l.ports.items ≡ map (parent_port l.graph (position_in (guids_of l.graph) l.positions)) (take l.index (guids_of l.graph))
