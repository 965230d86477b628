-- The cells are the entries.
use Rattle.std.proofs.Common.{sym, ap, ◌∙◌}
use Rattle.std.specs.Prelude.{slice_get}
use Rattle.fact_store.proofs.Held.{entries_are, are_in_range}
use Rattle.fact_store.proofs.store.Store.cell.Goals as goal

pub returns-clause-exact : goal.returns-clause-exact
returns-clause-exact c = c.get.ensures
    ∙ ap (λ s. slice_get s c.args.i) (sym (entries_are c.self.inside.floor c.self.inside.cells.items c.self.invariant c.args.self.now c.self.view_is))

pub returns-clause-in_range : goal.returns-clause-in_range
returns-clause-in_range c = are_in_range c.self.inside.floor c.self.inside.cells.items c.self.invariant c.args.self.now c.self.view_is
