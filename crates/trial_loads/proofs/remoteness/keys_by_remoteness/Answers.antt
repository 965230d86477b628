use Rattle.std.proofs.Common.{ap, ◌∙◌, length}
use Rattle.spread_labels.specs.GrowthKeys.{distances_from}
use Rattle.spread_labels.proofs.Numbers.{numbers_long}
use Rattle.trial_loads.specs.Starts.{remoteness}
use Rattle.trial_loads.proofs.remoteness.keys_by_remoteness.Goals as goal

pub keys-requires-clause-all : goal.keys-requires-clause-all
keys-requires-clause-all c =
    let edges = c.args.graph.now.edges.now in
    ap length (c.deref.ensures.value ∙ c.in_ok-remote.ensures)
    ∙ numbers_long (λ s. remoteness c.args.graph.now.adapters.now (distances_from edges s)) 0 (length edges)
