-- The owners so far.
use Rattle.lane_channels.specs.Visit.{columns_in, walked, cells_at}
use Rattle.lane_channels.specs.Walk.{AreFollowed}
use Rattle.lane_channels.proofs.Senders.{AnswersToSome}
use Rattle.lane_channels.proofs.waits_by_lane.follow_answers.Given as goal

abbrev pub invariant-loop-nth : goal.invariant-loop-nth
invariant-loop-nth l =
    AreFollowed l.columns.by_lane.now.said (cells_at l.columns) (columns_in l.columns) l.columns.lid (AnswersToSome l.columns.by_lane.now.said l.owners l.lids l.nth l.first)
    (walked l.fn.walks) (walked l.walks)
