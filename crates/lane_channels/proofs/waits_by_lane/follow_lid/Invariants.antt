-- The senders so far.
use Rattle.lane_channels.specs.Visit.{columns_in, walked, cells_at}
use Rattle.lane_channels.specs.Walk.{AreFollowed}
use Rattle.lane_channels.proofs.Senders.{SentBySome}
use Rattle.lane_channels.proofs.waits_by_lane.follow_lid.Given as goal

abbrev pub invariant-loop-index : goal.invariant-loop-index
invariant-loop-index l =
    AreFollowed l.columns.by_lane.now.said (cells_at l.columns) (columns_in l.columns) l.columns.lid (SentBySome l.columns.by_lane.now l.asked.answers l.columns.lid l.index)
    (walked l.fn.walks) (walked l.walks)
