-- What is left is the store's.
use Rattle.std.proofs.Common.{sym, subst}
use Rattle.std.specs.Prelude.{T}
use Rattle.std.specs.FinMap.{is_sorted}
use Rattle.reply_facts.specs.Key.{key_cmp}
use Rattle.fact_store.specs.Iter.{cells_left}
use Rattle.fact_store.proofs.Entries.{cells_in_order}
use Rattle.subnet_view.specs.Reading.{Cells}
use Rattle.subnet_view.proofs.Passing.{are_left}
use Rattle.subnet_view.proofs.cell_cursor.CellCursor.new.Goals as goal

pub invariant_of-result : goal.invariant_of-result
invariant_of-result c =
    are_left (cells_left c.cells-later.result) (cells_left c.next-next.new.self) c.next-next.result
    (subst (λ (es : Cells). T (is_sorted key_cmp es)) (sym c.cells-later.ensures.cells) (cells_in_order c.args.store.now)) c.next-next.ensures.steps
