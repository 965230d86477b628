-- A LID more.
use Rattle.std.proofs.Common.{◌∙◌, ℕ, Vec, Global, ap, sym}
use Rattle.fact_store.specs.View.{cells_of}
use Rattle.packet_walks.specs.Network.{Seen}
use Rattle.next_tables.proofs.ByLid.{column_more}
use Rattle.held_order.specs.TablesBetween.{column_between}
use Rattle.held_order.proofs.tables_between.columns.Goals as goal

pub column-requires-clause-facts : goal.column-requires-clause-facts
column-requires-clause-facts c =
    ap (λ (s : Seen). s.facts) (c.go_to-in-loop-number.ensures.seen ∙ c.loop-number.invariant.plan) ∙ c.requires.facts
    ∙ sym (ap (λ (s : Seen). s.facts) (c.go_to.ensures.seen ∙ c.loop-number.invariant.held))

pub loop-number-preserved : goal.loop-number-preserved
loop-number-preserved c =
    let edges = c.args.edges.now in
    let orders = c.args.orders.now in
    let f = column_between (cells_of c.args.held.now.facts) edges orders c.args.held.now.held c.args.plan.now.held in
    let held_is = c.go_to.ensures.seen ∙ c.loop-number.invariant.held in
    let plan_is = c.go_to-in-loop-number.ensures.seen ∙ c.loop-number.invariant.plan in
    let column_is = c.in_ok-column.ensures.column
    ∙ (λ i. column_between (cells_of (held_is i).facts) edges orders (held_is i).held (plan_is i).held ((c.in_ok-go_to.ensures.lid ∙ c.new-lid.ensures) i)) in
    record {
      held = held_is;
      plan = plan_is;
      labels = c.in_ok-column.ensures.labels;
      columns = column_more f (λ (v : Vec ℕ Global). v.items) c.loop-number.columns.items c.push.new.self.items
          c.in_ok-column.column c.loop-number.number c.loop-number.invariant.columns c.in_ok-push.ensures.items column_is;
    }
