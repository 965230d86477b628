-- If there is a level.
use Rattle.std.proofs.lemmas.Result.{on_ok_weaker}
use Rattle.lane_channels.specs.Visit.{columns_in, walked, cells_at}
use Rattle.lane_channels.proofs.Walks.{followed_at}
use Rattle.lane_channels.proofs.waits_by_lane.walk_at_level.Goals as goal

pub returns-in-Some : goal.returns-in-Some
returns-in-Some c =
    on_ok_weaker c.walk.result
    (λ h. followed_at c.args.columns.now.by_lane.now.said (cells_at c.args.columns.now) (columns_in c.args.columns.now) c.args.columns.now.lid c.in-Some.level
    c.args.first c.args.level (walked c.args.walks.now) (walked c.walk.new.walks) c.in-Some.is h) c.walk.ensures
