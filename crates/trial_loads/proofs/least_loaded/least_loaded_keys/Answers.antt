use Rattle.std.proofs.Common.{◌≡◌, List, ap, ◌∙◌, subst, length}
use Rattle.std.specs.Prelude.{IfOk}
use Rattle.spread_labels.specs.declared.key_order.VertexKey.{VertexKey}
use Rattle.spread_labels.specs.GrowthKeys.{key_of}
use Rattle.spread_labels.proofs.Numbers.{numbers_long}
use Rattle.trial_loads.specs.LeastLoaded.{least_loaded_among}
use Rattle.trial_loads.specs.Starts.{all_remoteness}
use Rattle.trial_loads.proofs.least_loaded.least_loaded_keys.Goals as goal

pub least_loaded_among-requires-clause-keys : goal.least_loaded_among-requires-clause-keys
least_loaded_among-requires-clause-keys c =
    let edges = c.args.edges.now in
    ap length (c.deref.ensures.value ∙ c.in_ok-keys.ensures)
    ∙ numbers_long (key_of edges (all_remoteness edges c.args.adapters.now)) 0 (length edges)

pub returns : goal.returns
returns c =
    let edges = c.args.edges.now in
    let adapters = c.args.adapters.now in
    subst (λ (keys : List VertexKey). IfOk c.least_loaded_among.result (λ found. found.items ≡ least_loaded_among edges adapters keys))
    (c.deref.ensures.value ∙ c.in_ok-keys.ensures) c.least_loaded_among.ensures
