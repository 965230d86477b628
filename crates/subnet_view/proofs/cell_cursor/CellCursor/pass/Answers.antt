-- One cell more is passed.
use Rattle.std.proofs.Common.{sym, ap, ◌∙◌}
use Rattle.std.specs.List.{cons_option}
use Rattle.std.specs.Ordering.{is_ge}
use Rattle.reply_facts.specs.declared.key.Key.{Key}
use Rattle.reply_facts.specs.Key.{key_cmp}
use Rattle.fact_store.specs.Iter.{cells_left}
use Rattle.subnet_view.proofs.Passing.{passed_in_step}
use Rattle.subnet_view.proofs.cell_cursor.CellCursor.pass.Goals as goal

pub loop-self-preserved : goal.loop-self-preserved
loop-self-preserved c =
    passed_in_step c.args.key c.in-Some.sighting c.loop-self.self-inside.next c.next-self-inside.result
    (cons_option c.self.inside.next (cells_left c.self.inside.later))
    (cells_left c.loop-self.self-inside.later) (cells_left c.next-self-inside.new.self) c.in-Some.is
    (ap (λ (k : Key). is_ge (key_cmp k c.args.key)) (sym c.key.ensures.value) ∙ sym c.ge.ensures
    ∙ c.if-ge.false) c.next-self-inside.ensures.steps c.loop-self.invariant
