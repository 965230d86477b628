-- A key after the last one goes in at the end.
use Rattle.std.proofs.Common.{◌-◌, sym, subst, arith}
use Rattle.fact_store.specs.Cells.{IsIndexFor}
use Rattle.fact_store.proofs.Searches.{behind_last}
use Rattle.fact_store.proofs.search.index_of.Goals as goal

pub returns-in-Less : goal.returns-in-Less
returns-in-Less c =
    subst (IsIndexFor c.args.key.now c.args.cells.now.items) (sym c.len-len.ensures)
    (behind_last c.args.key.now c.args.cells.now.items c.requires (c.len-len.result - 1) (omega (arith, c.len-len.ensures, c.if-len-gt0.true))
    c.in-Less.ensures)
