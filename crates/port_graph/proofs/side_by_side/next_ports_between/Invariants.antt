use Rattle.std.proofs.Common.{◌≡◌, ◌+◌, ◌-◌, length, map}
use Rattle.port_graph.proofs.Rows.{IsMapped, row_to}
use Rattle.port_graph.proofs.side_by_side.next_ports_between.Given as goal

-- the rows to the targets so far, block by block
abbrev pub invariant-block : goal.invariant-block
invariant-block l =
    record {
      numbers : length l.block.numbers.items ≡ length l.ups;
      ports : length l.block.ports.items ≡ length l.ups;
      rows : IsMapped (row_to l.ups l.downs l.vertices) l.vertices (map (λ ports. ports.items) l.rows.items) l.rows.len;
    }

abbrev pub decreases-block : goal.decreases-block
decreases-block l = length l.vertices - l.rows.len

-- and lane by lane
abbrev pub invariant-loop-lane : goal.invariant-loop-lane
invariant-loop-lane l =
    record {
      count : l.rows.len ≡ l.first + l.lane;
      rows : IsMapped (row_to l.ups l.downs l.vertices) l.vertices (map (λ ports. ports.items) l.rows.items) (l.first + l.lane);
    }
