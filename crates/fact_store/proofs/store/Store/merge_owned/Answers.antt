-- What is merged into nothing is raised to its floor.
use Rattle.std.proofs.Common.{ap, ◌∙◌, arith}
use Rattle.fact_store.specs.View.{Facts, raised}
use Rattle.fact_store.proofs.Held.{none_held}
use Rattle.fact_store.proofs.store.Store.merge_owned.Goals as goal

pub returns-then-len-eq0-clause-ok : goal.returns-then-len-eq0-clause-ok
returns-then-len-eq0-clause-ok c =
    c.raise_floor.ensures ∙ ap (λ (x : Facts). raised x c.self.inside.floor) c.other.view_is
    ∙ none_held c.self.inside.floor c.self.inside.cells.items c.args.self.now c.self.view_is (omega (arith, c.if-len-eq0.true, c.len.ensures)) c.args.other
