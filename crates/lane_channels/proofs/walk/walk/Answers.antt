-- A stop more, and the end.
use Rattle.std.proofs.Common.{◌≡◌, [], ◌∷◌, ℕ, List, length, refl, ◌∙◌, arith}
use Rattle.lane_channels.specs.Visit.{columns_in, walked, walking, cells_at}
use Rattle.lane_channels.proofs.Walks.{taken, visited_if_new, walk_begins, walk_ends}
use Rattle.lane_channels.proofs.walk.walk.Goals as goal

pub loop-step-init : goal.loop-step-init
loop-step-init c =
    walk_begins c.args.columns.now.by_lane.now.said (cells_at c.args.columns.now) (columns_in c.args.columns.now) c.args.columns.now.lid c.args.level
    c.args.first
    c.begin.new.stops.items (walked c.args.walks.now) c.in_ok-begin.ensures

pub visit_if_new-requires-clause-walks : goal.visit_if_new-requires-clause-walks
visit_if_new-requires-clause-walks c = record {
  waits = c.loop-step.invariant.as_many ∙ c.requires.walks.waits;
  marks = c.loop-step.invariant.as_many_marks ∙ c.requires.walks.marks;
}

pub returns-in_default : goal.returns-in_default
returns-in_default c =
    walk_ends c.args.columns.now.by_lane.now.said (cells_at c.args.columns.now) (columns_in c.args.columns.now) c.args.columns.now.lid c.args.level c.args.first
    c.loop-step.walks.stops.items (walked c.args.walks.now) (walked c.loop-step.walks) c.requires.level c.loop-step.invariant
    (none_items c.loop-step.walks.stops.items (omega (arith, c.in_default.ensures.cases.0, c.loop-step.walks.stops.ok.0)))
  where
    none_items : (xs : List ℕ) → length xs ≡ 0 → xs ≡ []
    none_items [] e = refl
    none_items (x ∷ xs) e = absurd (omega arith)

pub loop-step-preserved : goal.loop-step-preserved
loop-step-preserved c =
    let old = c.loop-step.walks in
    let popped = walking (record { waits = old.waits; marks = old.marks; dropped = old.dropped; stops = c.pop.new.self }) in
    visited_if_new c.args.columns.now.by_lane.now.said (cells_at c.args.columns.now) (columns_in c.args.columns.now) c.args.columns.now.lid c.args.level
    c.args.first
    old.stops.items c.in-Some.stop (walked c.args.walks.now) popped (walking c.visit_if_new.new.walks) c.loop-step.invariant
    (taken old.stops.items c.pop.new.self.items c.in-Some.stop c.in-Some.ensures.items) c.in_ok-visit_if_new.ensures
    (c.loop-step.invariant.as_many_marks ∙ c.requires.walks.marks) c.requires.level
