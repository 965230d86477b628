use Rattle.std.proofs.Common.{◌≡◌, ◌+◌, Bool, true, false, sym, ap, ◌∙◌, arith, cond, add-one, length}
use Rattle.std.specs.Prelude.{filter}
use Rattle.std.specs.List.{range_with_len}
use Rattle.subnet_view.specs.View.{cells_of}
use Rattle.spread_routes.specs.Adapters.{has_adapter_at}
use Rattle.spread_routes.proofs.AdapterCounts.{count_more}
use Rattle.spread_routes.proofs.adapters.adapters_at.Goals as goal
use Rattle.spread_routes.proofs.adapters.adapters_at.Goals.{then-has_adapter_at, else-has_adapter_at}

pub loop-before-preserved : goal.loop-before-preserved
loop-before-preserved c =
    let k = c.loop-before.before in
    let f = has_adapter_at (cells_of c.args.wires.now) c.args.switch in
    let port : c.new.result ≡ 1 + k = c.new.ensures ∙ omega arith in
    let has : c.has_adapter_at.result ≡ f (1 + k) = c.has_adapter_at.ensures ∙ ap f port in
    let more : (t : Bool) → f (1 + k) ≡ t → length (filter f (range_with_len 1 (k + 1))) ≡ c.loop-before.count + cond t 1 0 =
    λ t is. ap (λ n. length (filter f (range_with_len 1 n))) (add-one k) ∙ count_more f 1 k t is ∙ ap (λ n. n + cond t 1 0) (sym c.loop-before.invariant.count) in
    elim c.if-has_adapter_at.branch [
      | then-has_adapter_at w ↦ record {
        count = w.count-is ∙ sym (more true (sym has ∙ w.if-has_adapter_at.true));
        few = omega (arith, w.count-is, c.loop-before.invariant.few);
      }
      | else-has_adapter_at w ↦ record {
        count = omega (arith, w.count-is, more false (sym has ∙ w.if-has_adapter_at.false));
        few = omega (arith, w.count-is, c.loop-before.invariant.few);
      }
    ]
