use Rattle.std.proofs.Common.{◌+◌, length}
use Rattle.port_graph.specs.Heads.{heads}
use Rattle.port_graph.proofs.Searching.{IsBetween, unknown}
use Rattle.port_graph.proofs.distance.distances.Given as goal

-- each vertex that has a distance waits, or its edges were followed
abbrev pub invariant-loop-vertex : goal.invariant-loop-vertex
invariant-loop-vertex l = IsBetween (heads l.edges) l.from (length l.edges) (l.distances.items, l.queue.items)

-- the vertices that have no distance yet, and those that wait
abbrev pub decreases-loop-vertex : goal.decreases-loop-vertex
decreases-loop-vertex l = unknown l.distances.items + length l.queue.items
