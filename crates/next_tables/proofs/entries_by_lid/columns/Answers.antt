-- A LID more.
use Rattle.std.proofs.Common.{◌≡◌, ◌∙◌, ℕ, Vec, Global, ap, sym}
use Rattle.fact_store.specs.View.{cells_of}
use Rattle.packet_walks.specs.Network.{Seen}
use Rattle.next_tables.specs.NextTables.{column_of, value_of}
use Rattle.next_tables.proofs.ByLid.{column_more}
use Rattle.next_tables.proofs.entries_by_lid.columns.Goals as goal

pub column-requires-clause-facts : goal.column-requires-clause-facts
column-requires-clause-facts c =
    ap (λ (s : Seen). s.facts) (c.go_to-in-loop-number.ensures.seen ∙ c.loop-number.invariant.plan) ∙ c.requires.facts
    ∙ sym (ap (λ (s : Seen). s.facts) (c.go_to.ensures.seen ∙ c.loop-number.invariant.held))

pub loop-number-preserved : goal.loop-number-preserved
loop-number-preserved c =
    let held_is = c.go_to.ensures.seen ∙ c.loop-number.invariant.held in
    let plan_is = c.go_to-in-loop-number.ensures.seen ∙ c.loop-number.invariant.plan in
    let held = c.args.held.now in
    let plan = c.args.plan.now in
    let rule = value_of c.args.rule.now in
    let column_is = c.in_ok-column.ensures
    ∙ (λ i. column_of (cells_of (held_is i).facts) rule (held_is i).held (plan_is i).held ((c.in_ok-go_to.ensures.lid ∙ c.new-lid.ensures) i)) in
    record {
      held = held_is;
      plan = plan_is;
      columns = column_more (column_of (cells_of held.facts) rule held.held plan.held) (λ (v : Vec ℕ Global). v.items) c.loop-number.columns.items
          c.push.new.self.items c.in_ok-column.field-0 c.loop-number.number c.loop-number.invariant.columns c.in_ok-push.ensures.items column_is;
    }
