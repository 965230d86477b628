-- The cells are the entries.
use Rattle.std.proofs.Common.{sym, ◌∙◌}
use Rattle.fact_store.proofs.Held.{entries_are, are_in_range}
use Rattle.fact_store.proofs.store.Store.cells.Goals as goal

pub returns-clause-cells : goal.returns-clause-cells
returns-clause-cells c = c.iter.ensures.items ∙ sym (entries_are c.self.inside.floor c.self.inside.cells.items c.self.invariant c.args.self.now c.self.view_is)

pub returns-clause-in_range : goal.returns-clause-in_range
returns-clause-in_range c = are_in_range c.self.inside.floor c.self.inside.cells.items c.self.invariant c.args.self.now c.self.view_is
