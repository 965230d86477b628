-- By induction on the grouping.
use Rattle.fact_store.proofs.Groupings.{grouping_is_free}
use Rattle.fact_store.proofs.laws.grouping_is_free.Goals as goal

pub returns : goal.returns
returns c = grouping_is_free
