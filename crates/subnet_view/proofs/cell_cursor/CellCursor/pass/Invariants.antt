use Rattle.std.proofs.Common.{length}
use Rattle.std.specs.List.{cons_option}
use Rattle.fact_store.specs.Iter.{cells_left}
use Rattle.subnet_view.specs.CellCursor.{AreLeft, KeepsFrom}
use Rattle.subnet_view.proofs.cell_cursor.CellCursor.pass.Given as goal

-- the cells that are left are in order, and what was passed came before the key
abbrev pub invariant-loop-self : goal.invariant-loop-self
invariant-loop-self l =
    AreLeft l.self-inside.next (cells_left l.self-inside.later)
    × KeepsFrom l.key (cons_option l.initial.self-inside.next (cells_left l.initial.self-inside.later))
    (cons_option l.self-inside.next (cells_left l.self-inside.later))

abbrev pub decreases-loop-self : goal.decreases-loop-self
decreases-loop-self l = length (cons_option l.self-inside.next (cells_left l.self-inside.later))
