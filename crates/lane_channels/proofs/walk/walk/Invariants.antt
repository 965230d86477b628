-- The walk under way.
use Rattle.lane_channels.specs.Visit.{columns_in, walked, cells_at}
use Rattle.lane_channels.proofs.Walks.{InWalk}
use Rattle.lane_channels.proofs.walk.walk.Given as goal

abbrev pub invariant-loop-step : goal.invariant-loop-step
invariant-loop-step l =
    InWalk l.columns.by_lane.now.said (cells_at l.columns) (columns_in l.columns) l.columns.lid l.level l.fn.first l.walks.stops.items (walked l.fn.walks)
    (walked l.walks)
