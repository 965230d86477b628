-- A LID more.
use Rattle.std.proofs.Common.{◌≡◌, ◌∙◌, ℕ, ap, subst, arith, length}
use Rattle.lanes_file.specs.Lanes.{LanesSaid, level_of}
use Rattle.lane_channels.specs.Senders.{AnswersOf}
use Rattle.lane_channels.specs.Visit.{columns_in, walked, cells_at}
use Rattle.lane_channels.specs.Walk.{AreFollowed}
use Rattle.lane_channels.proofs.Senders.{item_there, no_lids, one_asked}
use Rattle.lane_channels.proofs.waits_by_lane.follow_answers_to.Goals as goal

pub loop-index-init : goal.loop-index-init
loop-index-init c =
    no_lids c.args.columns.now.by_lane.now.said (cells_at c.args.columns.now) (columns_in c.args.columns.now) c.args.columns.now.lid (walked c.args.walks.now)
    c.args.asker.now c.args.lids.now c.args.first

pub loop-index-preserved : goal.loop-index-preserved
loop-index-preserved c =
    one_asked c.args.columns.now.by_lane.now.said (cells_at c.args.columns.now) (columns_in c.args.columns.now) c.args.columns.now.lid (walked c.args.walks.now)
    (walked c.loop-index.walks) (walked c.walk_at_level.new.walks) c.args.asker.now c.args.lids.now c.loop-index.index c.index-lids-index.result
    c.level_from-level.result c.args.first c.loop-index.invariant
    (item_there c.args.lids.now c.loop-index.index c.index-lids-index.result (omega arith) c.index-lids-index.is)
    (c.level_from-level.ensures.is ∙ ap (λ (s : LanesSaid). level_of s c.args.asker.now.node c.args.asker.now.port c.index-lids-index.result) c.lanes.ensures)
    c.in_ok-walk_at_level.ensures

pub returns : goal.returns
returns c =
    let whole : c.loop-index.index ≡ length c.args.lids.now = omega arith in
    subst (λ (n : ℕ). AreFollowed c.args.columns.now.by_lane.now.said (cells_at c.args.columns.now) (columns_in c.args.columns.now) c.args.columns.now.lid
    (AnswersOf c.args.columns.now.by_lane.now.said c.args.asker.now c.args.lids.now n c.args.first) (walked c.args.walks.now) (walked c.loop-index.walks)) whole
    c.loop-index.invariant
