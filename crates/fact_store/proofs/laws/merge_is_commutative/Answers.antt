-- The least facts above both are one.
use Rattle.fact_store.proofs.Merges.{merge_is_commutative}
use Rattle.fact_store.proofs.laws.merge_is_commutative.Goals as goal

pub returns : goal.returns
returns c = merge_is_commutative
