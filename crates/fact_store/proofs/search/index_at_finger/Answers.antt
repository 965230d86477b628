-- The cell behind that at the finger has the key, or the key goes in between.
use Rattle.std.proofs.Common.{◌≡◌, ℕ, ◌+◌, sym, ap, ◌∙◌, subst}
use Rattle.std.specs.Prelude.{slice_get}
use Rattle.std.specs.declared.cmp.Ordering.TheVariants.{Greater}
use Rattle.fact_store.specs.Cells.{IsIndexFor}
use Rattle.fact_store.proofs.Searches.{order_of, stands_at, stands_between}
use Rattle.fact_store.proofs.search.index_at_finger.Goals as goal

pub returns-in-Equal-order_at : goal.returns-in-Equal-order_at
returns-in-Equal-order_at c = stands_at c.args.key.now c.args.cells.now.items c.requires c.in_ok-next.next c.in-Equal-order_at.ensures

pub returns-in-Greater-order_at : goal.returns-in-Greater-order_at
returns-in-Greater-order_at c =
    let next : c.in_ok-next.next ≡ c.in_ok-index.index + 1 = c.in_ok-next.ensures.1 in
    let greater : Greater ≡ order_of c.args.key.now (slice_get c.args.cells.now.items (c.in_ok-index.index + 1)) =
    c.in-Greater-order_at.ensures ∙ ap (λ (n : ℕ). order_of c.args.key.now (slice_get c.args.cells.now.items n)) next in
    subst (IsIndexFor c.args.key.now c.args.cells.now.items) (sym next)
    (stands_between c.args.key.now c.args.cells.now.items c.requires c.in_ok-index.index c.in-Less.ensures greater)
