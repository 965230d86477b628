-- The law leaves one answer at each key.
use Rattle.fact_store.proofs.Views.{view_is_unique}
use Rattle.fact_store.proofs.laws.view_is_unique.Goals as goal

pub returns : goal.returns
returns c = view_is_unique
