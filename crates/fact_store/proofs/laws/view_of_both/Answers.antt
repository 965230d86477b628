-- The view of both lists and the merge are below each other.
use Rattle.fact_store.proofs.Views.{view_of_both}
use Rattle.fact_store.proofs.laws.view_of_both.Goals as goal

pub returns : goal.returns
returns c = view_of_both
