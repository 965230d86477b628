-- A LID more, and all of them.
use Rattle.std.proofs.Common.{◌∙◌, ◌<◌, refl, sym, ap, arith}
use Rattle.fact_store.specs.View.{cells_of}
use Rattle.packet_walks.specs.Edges.{edges_of}
use Rattle.next_tables.specs.SwitchPositions.{position_at}
use Rattle.next_tables.specs.Rightness.{is_right_column}
use Rattle.next_tables.proofs.by_order.ToldRight.{all_right, one_wrong, right_more}
use Rattle.next_tables.proofs.rightness.are_right.Goals as goal

pub loop-below-init : goal.loop-below-init
loop-below-init c = record { seen = c.in_ok-cursor.ensures.seen; right = refl }

pub loop-below-preserved : goal.loop-below-preserved
loop-below-preserved c =
    let q = position_at c.args.positions.now in
    let edges = c.in_ok-edges.edges.items in
    let seen = c.go_to.ensures.seen ∙ c.loop-below.invariant.seen in
    let edges_are = c.in_ok-edges.ensures ∙ (λ i. edges_of (cells_of (seen i).facts) (seen i).held (c.in_ok-go_to.ensures.lid i)) in
    let well = ap (is_right_column q) (sym c.deref.ensures.value) ∙ sym c.is_right_column.ensures ∙ c.if-not-is_right_column.false in
    record {
      seen = seen;
      right = right_more (cells_of c.args.held.now.facts) q c.args.held.now.held c.loop-below.below c.new.result edges c.loop-below.invariant.right
          c.new.ensures edges_are well;
    }

pub returns : goal.returns
returns c =
    let end = c.number-below-end.ensures in
    all_right (cells_of c.args.held.now.facts) (position_at c.args.positions.now) c.args.held.now.held c.loop-below.below c.greatest_top.result
    c.loop-below.invariant.right c.greatest_top.ensures (omega (arith, end, c.loop-below-test.false, c.loop-below.auto.below-end))

pub returns-then-not-is_right_column : goal.returns-then-not-is_right_column
returns-then-not-is_right_column c =
    let q = position_at c.args.positions.now in
    let end = c.number-below-end.ensures in
    let seen = c.go_to.ensures.seen ∙ c.loop-below.invariant.seen in
    let edges_are = c.in_ok-edges.ensures ∙ (λ i. edges_of (cells_of (seen i).facts) (seen i).held (c.in_ok-go_to.ensures.lid i)) in
    let wrong = ap (is_right_column q) (sym c.deref.ensures.value) ∙ sym c.is_right_column.ensures ∙ c.if-not-is_right_column.true in
    let less : c.loop-below.below < c.greatest_top.result = omega (arith, end, c.loop-below-test.true) in
    one_wrong (cells_of c.args.held.now.facts) q c.args.held.now.held c.loop-below.below c.new.result c.greatest_top.result
    c.in_ok-edges.edges.items c.new.ensures less c.greatest_top.ensures edges_are wrong
