-- As many cells as entries.
use Rattle.std.proofs.Common.{length, sym, ap, ◌∙◌}
use Rattle.fact_store.proofs.Held.{entries_are, are_in_range}
use Rattle.fact_store.proofs.store.Store.count.Goals as goal

pub returns-clause-exact : goal.returns-clause-exact
returns-clause-exact c =
    c.len.ensures ∙ ap length (sym (entries_are c.self.inside.floor c.self.inside.cells.items c.self.invariant c.args.self.now c.self.view_is))

pub returns-clause-in_range : goal.returns-clause-in_range
returns-clause-in_range c = are_in_range c.self.inside.floor c.self.inside.cells.items c.self.invariant c.args.self.now c.self.view_is
