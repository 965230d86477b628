use Rattle.topo_file.proofs.Guids.{HaveSeen}
use Rattle.topo_file.proofs.topology.guids_distinct.Given as goal

-- the GUIDs seen
abbrev pub invariant-loop-node : goal.invariant-loop-node
invariant-loop-node l = HaveSeen l.nodes l.seen l.node-index
