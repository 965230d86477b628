-- What the report tells is added.
use Rattle.std.proofs.Common.{ap, ◌∙◌}
use Rattle.fact_store.specs.Merge.{merge}
use Rattle.fact_store.specs.View.{view}
use Rattle.fact_store.proofs.store.Store.ingest.Goals as goal

pub returns-in-Ok-add_all-clause-ok : goal.returns-in-Ok-add_all-clause-ok
returns-in-Ok-add_all-clause-ok c = c.in-Ok-add_all.ensures.ok ∙ ap (λ s. merge c.args.self.now (view s)) (c.as_slice.ensures.value ∙ c.in-Ok.ensures.sightings)
