-- The edge of a column more, and those of all.
use Rattle.std.proofs.Common.{◌≡◌, ◌+◌, length, sym, arith, subst, List, ℕ}
use Rattle.std.proofs.lemmas.List.{length-map}
use Rattle.lane_channels.specs.Visit.{FirstEdges, IsWithNexts, LeavesAlong, columns_in, cells_at}
use Rattle.lane_channels.proofs.Visits.{all_along, column_along, no_column_along, none_yet}
use Rattle.lane_channels.proofs.visit.record.Goals.{in-Some+in_ok-record_along, in_default}
use Rattle.lane_channels.proofs.visit.record.Goals as goal

pub loop-nth-init : goal.loop-nth-init
loop-nth-init c =
    none_yet c.args.columns.now.by_lane.now.said (cells_at c.args.columns.now) c.args.level c.args.index c.args.into c.args.channel
    (columns_in c.args.columns.now)
    c.args.waits.now

pub loop-nth-preserved : goal.loop-nth-preserved
loop-nth-preserved c =
    let said = c.args.columns.now.by_lane.now.said in
    let cells = cells_at c.args.columns.now in
    let columns = columns_in c.args.columns.now in
    let nth = c.loop-nth.nth in
    let Done = λ (waits : List (List ℕ)). IsWithNexts c.args.waits.now c.args.channel
    (LeavesAlong said cells (FirstEdges columns c.args.index (nth + 1)) c.args.level c.args.index c.args.into) waits in
    elim c.match-other_edge.branch [
      | in-Some+in_ok-record_along w ↦
          subst Done (sym w.waits-is)
          (column_along said cells c.args.level c.args.index c.args.into c.args.channel columns nth w.in-Some.edge c.args.waits.now c.loop-nth.waits
          w.record_along.new.waits w.in-Some.ensures c.loop-nth.invariant w.in_ok-record_along.ensures)
      | in_default w ↦
          subst Done (sym w.waits-is)
          (no_column_along said cells c.args.level c.args.index c.args.into c.args.channel columns nth c.args.waits.now c.loop-nth.waits
          w.in_default.ensures c.loop-nth.invariant)
    ]

pub returns : goal.returns
returns c =
    let said = c.args.columns.now.by_lane.now.said in
    let cells = cells_at c.args.columns.now in
    let columns = columns_in c.args.columns.now in
    let many : length columns ≡ length c.args.columns.now.columns.items = length-map c.args.columns.now.columns.items (λ column. column.items) in
    all_along said cells c.args.level c.args.index c.args.into c.args.channel columns c.loop-nth.nth c.args.waits.now c.loop-nth.waits (omega arith)
    c.loop-nth.invariant
