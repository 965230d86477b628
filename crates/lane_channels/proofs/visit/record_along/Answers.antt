-- On a lane that carries packets, or on none.
use Rattle.std.proofs.Common.{sym, ◌∙◌}
use Rattle.std.proofs.lemmas.Result.{on_ok_weaker}
use Rattle.lane_channels.specs.Visit.{cells_at}
use Rattle.lane_channels.proofs.Visits.{none_along, one_along}
use Rattle.lane_channels.proofs.visit.record_along.Goals as goal

pub returns-in-Some : goal.returns-in-Some
returns-in-Some c =
    on_ok_weaker c.add.result
    (λ h. one_along c.args.columns.now.by_lane.now.said (cells_at c.args.columns.now) c.args.level c.args.index c.args.into c.args.channel c.args.waits.now
    c.add.new.self c.args.edge c.in-Some.lane c.lane_number.result (sym c.lane.ensures ∙ c.in-Some.is) c.lane_number.ensures.is h) c.add.ensures

pub returns-in-None : goal.returns-in-None
returns-in-None c =
    none_along c.args.columns.now.by_lane.now.said (cells_at c.args.columns.now) c.args.level c.args.index c.args.into c.args.channel c.args.waits.now
    c.args.edge (sym c.lane.ensures ∙ c.in-None.is)
