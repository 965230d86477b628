-- At each key the join is the least cell above both.
use Rattle.fact_store.proofs.Merges.{merge_law}
use Rattle.fact_store.proofs.laws.merge_is_least_above_both.Goals as goal

pub returns : goal.returns
returns c = merge_law
