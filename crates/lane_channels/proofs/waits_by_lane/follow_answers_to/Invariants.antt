-- The LIDs so far.
use Rattle.lane_channels.specs.Senders.{AnswersOf}
use Rattle.lane_channels.specs.Visit.{columns_in, walked, cells_at}
use Rattle.lane_channels.specs.Walk.{AreFollowed}
use Rattle.lane_channels.proofs.waits_by_lane.follow_answers_to.Given as goal

abbrev pub invariant-loop-index : goal.invariant-loop-index
invariant-loop-index l =
    AreFollowed l.columns.by_lane.now.said (cells_at l.columns) (columns_in l.columns) l.columns.lid (AnswersOf l.columns.by_lane.now.said l.asker l.lids l.index l.first)
    (walked l.fn.walks) (walked l.walks)
