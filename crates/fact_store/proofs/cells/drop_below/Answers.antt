-- A cell that is kept goes behind those that were.
use Rattle.std.proofs.Common.{◌≡◌, ◌+◌, sym, ap, ◌∙◌, set}
use Rattle.std.specs.Prelude.{Some, option_copied, slice_get}
use Rattle.fact_store.proofs.Dropping.{dropping_kept, dropping_left, dropping_to}
use Rattle.fact_store.proofs.cells.drop_below.Goals as goal
use Rattle.fact_store.proofs.cells.drop_below.Goals.{then-is_at_least, else-is_at_least}

pub loop-i-preserved : goal.loop-i-preserved
loop-i-preserved c =
    let at : slice_get c.loop-i.cells.items c.loop-i.i ≡ Some c.unwrap.result.now = sym c.get_near.ensures ∙ ap option_copied c.unwrap.ensures in
    elim c.if-is_at_least.branch [
      | then-is_at_least w ↦
          dropping_to c.args.floor c.args.cells.now.items (set c.loop-i.cells.items c.loop-i.left c.unwrap.result.now) c.if-is_at_least.cells.items (c.loop-i.i
          + 1) (c.loop-i.left + 1) c.if-is_at_least.left
          (ap (λ l. l.items) w.cells-is ∙ w.set_near-near.ensures.items) w.left-is
          (dropping_kept c.args.floor c.args.cells.now.items c.loop-i.cells.items c.loop-i.i c.loop-i.left c.loop-i.invariant c.unwrap.result.now at
          (sym c.is_at_least.ensures ∙ w.if-is_at_least.true))
      | else-is_at_least w ↦
          dropping_to c.args.floor c.args.cells.now.items c.loop-i.cells.items c.if-is_at_least.cells.items (c.loop-i.i + 1) c.loop-i.left c.if-is_at_least.left
          (ap (λ l. l.items) w.cells-is) w.left-is
          (dropping_left c.args.floor c.args.cells.now.items c.loop-i.cells.items c.loop-i.i c.loop-i.left c.loop-i.invariant c.unwrap.result.now at
          (sym c.is_at_least.ensures ∙ w.if-is_at_least.false))
    ]
