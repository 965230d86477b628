-- Two least facts above both are below each other.
use Rattle.fact_store.proofs.Merges.{merge_is_unique}
use Rattle.fact_store.proofs.laws.merge_is_unique.Goals as goal

pub returns : goal.returns
returns c = merge_is_unique
