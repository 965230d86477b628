-- Each is merged into what is held.
use Rattle.std.proofs.Common.{sym, ap, ◌∙◌, subst, arith}
use Rattle.fact_store.specs.Cells.{AreHeld}
use Rattle.fact_store.specs.View.{view_at}
use Rattle.fact_store.proofs.Held.{one_more_merged, none_merged}
use Rattle.fact_store.proofs.store.Store.add_few.Goals as goal

pub loop-sighting-init : goal.loop-sighting-init
loop-sighting-init c = (
  subst (AreHeld c.self.inside.floor) (sym c.reserve.ensures.items) c.self.invariant,
  ap (view_at c.self.inside.floor) c.reserve.ensures.items ∙ c.self.view_is ∙ none_merged c.args.self.now,
  omega (arith, c.in_ok-reserve.ensures.ok),
)

pub loop-sighting-preserved : goal.loop-sighting-preserved
loop-sighting-preserved c = (
  c.put_kept.ensures.cells,
  one_more_merged c.args.self.now (view_at c.loop-sighting.self-inside.floor c.loop-sighting.self-inside.cells.items)
      (view_at c.loop-sighting.self-inside.floor c.put_kept.new.cells.items) c.args.sightings.now c.loop-sighting.sighting-index c.sighting-item.result
      c.sighting-item.is c.loop-sighting-test.true c.loop-sighting.invariant.1 c.put_kept.ensures.put,
  omega (arith, c.loop-sighting.invariant.2, c.put_kept.ensures.room),
)
