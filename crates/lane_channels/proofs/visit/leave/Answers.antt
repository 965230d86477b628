-- The edge of a column more, and those of all.
use Rattle.std.proofs.Common.{◌≡◌, ◌+◌, ◌/◌, length, refl, sym, ◌∙◌, arith, subst, ap}
use Rattle.std.proofs.lemmas.List.{length-map}
use Rattle.lane_channels.specs.declared.walk_state.Walks.{Walks}
use Rattle.lane_channels.specs.Visit.{AreLeft, FirstEdges, columns_in, walking, cells_at}
use Rattle.lane_channels.proofs.Visits.{all_left, column_left, no_column_left, none_left}
use Rattle.lane_channels.proofs.visit.leave.Goals.{in-Some+in_ok-leave_along, in_default}
use Rattle.lane_channels.proofs.visit.leave.Goals as goal

pub loop-nth-init : goal.loop-nth-init
loop-nth-init c = record {
  marks = refl;
  left =
      none_left c.args.columns.now.by_lane.now.said (cells_at c.args.columns.now) (columns_in c.args.columns.now) c.args.columns.now.lid c.args.level c.args.stop
      (walking c.args.walks.now);
}

pub loop-nth-preserved : goal.loop-nth-preserved
loop-nth-preserved c =
    let said = c.args.columns.now.by_lane.now.said in
    let cells = cells_at c.args.columns.now in
    let columns = columns_in c.args.columns.now in
    let lid = c.args.columns.now.lid in
    let nth = c.loop-nth.nth in
    let Done = λ (walks : Walks). AreLeft said cells columns lid c.args.level c.args.stop (FirstEdges columns (c.args.stop / 256) (nth + 1))
    (walking c.args.walks.now) (walking walks) in
    elim c.match-other_edge.branch [
      | in-Some+in_ok-leave_along w ↦ record {
        marks = ap (λ (x : Walks). x.marks) w.walks-is ∙ w.leave_along.ensures.marks ∙ c.loop-nth.invariant.marks;
        left =
            subst Done (sym w.walks-is)
            (column_left said cells columns lid c.args.level c.args.stop nth w.in-Some.edge (walking c.args.walks.now) (walking c.loop-nth.walks)
            (walking w.leave_along.new.walks) w.in-Some.ensures c.loop-nth.invariant.left w.in_ok-leave_along.ensures.left);
      }
      | in_default w ↦ record {
        marks = ap (λ (x : Walks). x.marks) w.walks-is ∙ c.loop-nth.invariant.marks;
        left =
            subst Done (sym w.walks-is)
            (no_column_left said cells columns lid c.args.level c.args.stop nth (walking c.args.walks.now) (walking c.loop-nth.walks)
            w.in_default.ensures c.loop-nth.invariant.left);
      }
    ]

pub returns-clause-left : goal.returns-clause-left
returns-clause-left c =
    let columns = columns_in c.args.columns.now in
    let many : length columns ≡ length c.args.columns.now.columns.items = length-map c.args.columns.now.columns.items (λ column. column.items) in
    all_left c.args.columns.now.by_lane.now.said (cells_at c.args.columns.now) columns c.args.columns.now.lid c.args.level c.args.stop c.loop-nth.nth
    (walking c.args.walks.now) (walking c.loop-nth.walks) (omega arith) c.loop-nth.invariant.left
