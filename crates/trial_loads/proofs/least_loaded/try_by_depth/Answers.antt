use Rattle.std.proofs.Common.{◌≡◌, [], ◌∷◌, sym, ap, ◌∙◌, subst, cond, length, map, take, get_or, arith}
use Rattle.std.specs.Prelude.{nat_lt}
use Rattle.spread_labels.specs.KeyOrder.{before_by}
use Rattle.spread_labels.proofs.Numbers.{mapped_more, numbers_long}
use Rattle.depth_orders.specs.DepthOrder.{order_by_depth, turned}
use Rattle.trial_loads.specs.LeastLoaded.{key_in, keys_by_depth, least_by}
use Rattle.trial_loads.specs.TrialLoads.{trial_load}
use Rattle.trial_loads.specs.declared.least_loaded.Trial.{Trial}
use Rattle.trial_loads.proofs.Least.{least_both, made_of_either, of_either}
use Rattle.trial_loads.proofs.least_loaded.try_by_depth.Goals as goal

pub trial_of-requires-clause-keys : goal.trial_of-requires-clause-keys
trial_of-requires-clause-keys c =
    ap length c.in_ok-tried.ensures
    ∙ numbers_long (key_in (order_by_depth c.args.graph.now.edges.now (turned c.args.direction (before_by c.args.keys.now)) (get_or c.args.starts.now c.loop-start.start-index 0))) 0 (length c.args.graph.now.edges.now)

pub loop-start-preserved : goal.loop-start-preserved
loop-start-preserved c =
    let load = trial_load c.args.graph.now.edges.now c.args.graph.now.adapters.now in
    let f = keys_by_depth c.args.graph.now.edges.now c.args.keys.now c.args.direction in
    let n = c.loop-start.start-index in
    let xs = c.args.starts.now in
    let r = get_or xs n 0 in
    let more = mapped_more f xs n 0 (omega (arith, c.loop-start-test.true)) in
    let best = c.loop-start.best in
    let other = c.in_ok-other.other in
    let i = c.loop-start.invariant in
    let b = nat_lt other.load best.load in
    let there : other.keys.items ≡ f r = c.in_ok-other.ensures.keys ∙ c.in_ok-tried.ensures in
    let its : other.load ≡ load (f r) = c.in_ok-other.ensures.load ∙ ap load c.in_ok-tried.ensures in
    let olds = least_by load c.args.first.keys.items (map f (take n xs)) in
    record {
      keys = ap (λ (t : Trial). t.keys.items) c.lesser-best.ensures ∙ made_of_either (λ (t : Trial). t.keys.items) b other best
          ∙ (λ j. cond (nat_lt (its j) ((i.load ∙ ap load i.keys) j)) (there j) (i.keys j))
          ∙ sym (ap (least_by load c.args.first.keys.items) more ∙ least_both load c.args.first.keys.items (map f (take n xs)) (f r ∷ []));
      load = subst (λ (t : Trial). t.load ≡ load t.keys.items) (sym c.lesser-best.ensures)
          (of_either (λ (t : Trial). t.load ≡ load t.keys.items) b other best (its ∙ ap load (sym there)) i.load);
    }
