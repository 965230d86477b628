use Rattle.std.proofs.Common.{◌≡◌, map, take}
use Rattle.lid_assign.specs.Lids.{greatest}
use Rattle.packet_walks.proofs.network.greatest_top.Given as goal

-- that of the switches so far
abbrev pub invariant-loop-node : goal.invariant-loop-node
invariant-loop-node l = l.greatest ≡ greatest (map (λ node. node.top) (take l.node-index l.nodes))
