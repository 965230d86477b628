-- The columns so far.
use Rattle.lane_channels.specs.Visit.{FirstEdges, IsWithNexts, LeavesAlong, columns_in, cells_at}
use Rattle.lane_channels.proofs.visit.record.Given as goal

abbrev pub invariant-loop-nth : goal.invariant-loop-nth
invariant-loop-nth l =
    IsWithNexts l.fn.waits l.channel
    (LeavesAlong l.columns.by_lane.now.said (cells_at l.columns) (FirstEdges (columns_in l.columns) l.index l.nth) l.level l.index l.into) l.waits
