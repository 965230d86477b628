-- The least facts above all three are one.
use Rattle.fact_store.proofs.Merges.{merge_is_associative}
use Rattle.fact_store.proofs.laws.merge_is_associative.Goals as goal

pub returns : goal.returns
returns c = merge_is_associative
