-- The columns so far.
use Rattle.std.specs.Prelude.{◌≡◌, ◌/◌}
use Rattle.lane_channels.specs.Visit.{AreLeft, FirstEdges, columns_in, walking, cells_at}
use Rattle.lane_channels.proofs.visit.leave.Given as goal

abbrev pub invariant-loop-nth : goal.invariant-loop-nth
invariant-loop-nth l = record {
  marks : l.walks.marks ≡ l.fn.walks.marks;
  left : AreLeft l.columns.by_lane.now.said (cells_at l.columns) (columns_in l.columns) l.columns.lid l.level l.stop
      (FirstEdges (columns_in l.columns) (l.stop / 256) l.nth) (walking l.fn.walks) (walking l.walks);
}
