use Rattle.std.proofs.Common.{◌≡◌, drop}
use Rattle.std.specs.Prelude.{slice_index}
use Rattle.std.specs.Option.{option_or}
use Rattle.multicast_tree.specs.Tree.{first_before}
use Rattle.multicast_tree.proofs.parents.parent_port.Given as goal

-- the port that is found at last is that of the edges to come, or else the one found so far
abbrev pub invariant-loop-edge : goal.invariant-loop-edge
invariant-loop-edge l = option_or (first_before (slice_index l.positions) l.bound (drop l.edge-index l.edges)) l.port
    ≡ first_before (slice_index l.positions) (slice_index l.positions l.index) l.edges
