-- What is merged into an empty store is what it then holds.
use Rattle.std.proofs.Common.{◌∙◌, ap}
use Rattle.fact_store.specs.Merge.{merge}
use Rattle.fact_store.proofs.Merges.{merge_empty}
use Rattle.fact_store.proofs.store.Store.try_clone.Goals as goal

pub returns : goal.returns
returns c = record { ok = c.in_ok-merge.ensures.ok ∙ ap (λ x. merge x c.args.self.now) c.new-store.ensures ∙ merge_empty c.args.self.now }
