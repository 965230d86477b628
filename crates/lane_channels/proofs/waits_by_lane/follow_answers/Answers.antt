-- An owner more.
use Rattle.std.proofs.Common.{◌≡◌, ℕ, length, subst, arith}
use Rattle.lane_channels.specs.Visit.{columns_in, walked, cells_at}
use Rattle.lane_channels.specs.Walk.{AreFollowed}
use Rattle.lane_channels.proofs.Senders.{AnswersToSome, all_owners, item_there, no_owners, one_owner}
use Rattle.lane_channels.proofs.waits_by_lane.follow_answers.Goals as goal

pub loop-nth-init : goal.loop-nth-init
loop-nth-init c =
    no_owners c.args.columns.now.by_lane.now.said (cells_at c.args.columns.now) (columns_in c.args.columns.now) c.args.columns.now.lid (walked c.args.walks.now)
    c.args.owners.now c.args.lids.now c.args.first

pub loop-nth-preserved : goal.loop-nth-preserved
loop-nth-preserved c =
    one_owner c.args.columns.now.by_lane.now.said (cells_at c.args.columns.now) (columns_in c.args.columns.now) c.args.columns.now.lid (walked c.args.walks.now)
    (walked c.loop-nth.walks) (walked c.follow_answers_to.new.walks) c.args.owners.now c.args.lids.now c.loop-nth.nth c.index-owners-nth.result c.args.first
    c.loop-nth.invariant (item_there c.args.owners.now c.loop-nth.nth c.index-owners-nth.result (omega arith) c.index-owners-nth.is)
    c.in_ok-follow_answers_to.ensures

pub returns : goal.returns
returns c =
    let whole : c.loop-nth.nth ≡ length c.args.owners.now = omega arith in
    all_owners c.args.columns.now.by_lane.now.said (cells_at c.args.columns.now) (columns_in c.args.columns.now) c.args.columns.now.lid (walked c.args.walks.now)
    (walked c.loop-nth.walks) (walked c.loop-nth.walks) c.args.owners.now c.args.lids.now c.args.first
    (subst (λ (n : ℕ). AreFollowed c.args.columns.now.by_lane.now.said (cells_at c.args.columns.now) (columns_in c.args.columns.now) c.args.columns.now.lid
    (AnswersToSome c.args.columns.now.by_lane.now.said c.args.owners.now c.args.lids.now n c.args.first) (walked c.args.walks.now) (walked c.loop-nth.walks)) whole
    c.loop-nth.invariant)
