-- What is kept at the greater floor gives the same view there.
use Rattle.std.proofs.Common.{sym, ap, ◌∙◌, subst, arith}
use Rattle.fact_store.specs.Cells.{AreHeld}
use Rattle.fact_store.specs.View.{view_at}
use Rattle.fact_store.proofs.Held.{kept_held, raised_up, raised_none}
use Rattle.fact_store.proofs.store.Store.raise_floor.Goals as goal

pub invariant_of-self : goal.invariant_of-self
invariant_of-self c =
    subst (AreHeld c.args.floor) (sym c.drop_below.ensures) (kept_held c.args.floor c.self.inside.cells.items (omega (arith, c.number-2.ensures))
    c.self.invariant.are)

pub returns-then-number : goal.returns-then-number
returns-then-number c =
    ap (view_at c.args.floor) c.drop_below.ensures
    ∙ raised_up c.self.inside.floor c.args.floor c.self.inside.cells.items c.args.self.now c.self.view_is
    (omega (arith, c.if-number.true, c.number.ensures, c.number-2.ensures))

pub returns-else-number : goal.returns-else-number
returns-else-number c =
    raised_none c.self.inside.floor c.args.floor c.self.inside.cells.items c.args.self.now c.self.view_is
    (omega (arith, c.if-number.false, c.number.ensures, c.number-2.ensures))
