-- Each key has what its newest sightings say.
use Rattle.fact_store.proofs.Views.{view_law}
use Rattle.fact_store.proofs.laws.view_has_its_law.Goals as goal

pub returns : goal.returns
returns c = view_law
