-- Facts are the least above themselves.
use Rattle.fact_store.proofs.Merges.{merge_is_idempotent}
use Rattle.fact_store.proofs.laws.merge_is_idempotent.Goals as goal

pub returns : goal.returns
returns c = merge_is_idempotent
