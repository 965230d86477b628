-- What is told below the floor would be forgotten.
use Rattle.std.proofs.Common.{◌≡◌, ℕ, ap, ◌∙◌}
use Rattle.fact_store.specs.Merge.{merge}
use Rattle.fact_store.specs.View.{view_at}
use Rattle.fact_store.proofs.Held.{floor_is}
use Rattle.fact_store.proofs.Views.{sightings_at_floor}
use Rattle.fact_store.proofs.store.Store.add_many.Goals as goal

pub returns-clause-ok : goal.returns-clause-ok
returns-clause-ok c =
    let floor : c.self.inside.floor ≡ c.args.self.now.floor =
    floor_is c.self.inside.floor c.self.inside.cells.items c.args.self.now c.self.view_is c.self.invariant.from_one in
    c.in_ok-merge.ensures.ok ∙ ap (merge c.args.self.now) (c.in_ok-other.ensures ∙ ap (λ (f : ℕ). view_at f c.args.sightings.now) floor)
    ∙ sightings_at_floor c.args.self.now c.args.sightings.now
