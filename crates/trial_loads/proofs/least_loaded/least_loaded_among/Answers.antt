use Rattle.std.proofs.Common.{◌≡◌, sym, ap, ◌∙◌, length, map}
use Rattle.std.specs.Prelude.{min}
use Rattle.spread_labels.specs.KeyOrder.{before_by}
use Rattle.balanced_choices.specs.BalancedChoices.{are_even}
use Rattle.trial_loads.specs.LeastLoaded.{keys_by_depth, least_by, tried_by_depth}
use Rattle.trial_loads.specs.Starts.{starts}
use Rattle.trial_loads.specs.TrialLoads.{trial_load, trial_loads}
use Rattle.depth_orders.specs.declared.direction.Direction.TheVariants.{Forwards, Backwards}
use Rattle.trial_loads.proofs.Least.{least_both, found_even, found_least}
use Rattle.trial_loads.proofs.least_loaded.least_loaded_among.Goals as goal

pub returns-then-are_even : goal.returns-then-are_even
returns-then-are_even c =
    let edges = c.args.graph.now.edges.now in
    let loads : c.deref.result.now ≡ trial_loads edges c.args.graph.now.adapters.now c.args.keys.now = c.deref.ensures.value ∙ c.in_ok-loads.ensures in
    c.in_ok-keys_tried.ensures.items
    ∙ sym (found_even edges c.args.graph.now.adapters.now c.args.keys.now (ap (are_even edges) (sym loads) ∙ sym c.are_even.ensures ∙ c.if-are_even.true))

pub returns : goal.returns
returns c =
    let edges = c.args.graph.now.edges.now in
    let adapters = c.args.graph.now.adapters.now in
    let keys = c.args.keys.now in
    let load = trial_load edges adapters in
    let forwards = tried_by_depth edges keys Forwards in
    let backwards = tried_by_depth edges keys Backwards in
    let loads : c.deref.result.now ≡ trial_loads edges adapters keys = c.deref.ensures.value ∙ c.in_ok-loads.ensures in
    let first : c.deref-3.result.now ≡ starts edges (before_by keys) (min (length edges) 8) = c.deref-3.ensures.value ∙ c.in_ok-starts.ensures.starts in
    let second : c.deref-4.result.now ≡ starts edges (before_by keys) (min (length edges) 8) = c.deref-4.ensures.value ∙ c.in_ok-starts.ensures.starts in
    let best : c.in_ok-best.best.keys.items ≡ least_by load keys forwards =
    c.in_ok-best.ensures.keys ∙ (λ i. least_by load (c.in_ok-keys_tried.ensures.items i) (map (keys_by_depth edges keys Forwards) (first i))) in
    c.in_ok-best-2.ensures.keys ∙ (λ i. least_by load (best i) (map (keys_by_depth edges keys Backwards) (second i)))
    ∙ sym (least_both load keys forwards backwards)
    ∙ sym (found_least edges adapters keys (ap (are_even edges) (sym loads) ∙ sym c.are_even.ensures ∙ c.if-are_even.false))
