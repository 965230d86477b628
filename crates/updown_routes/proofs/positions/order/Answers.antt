-- What is sorted is an order.
use Rattle.std.proofs.Common.{◌≡◌, ◌∙◌, ap, subst, List, ℕ, map}
use Rattle.std.specs.Prelude.{IfOk}
use Rattle.std.specs.declared.result.Result.TheVariants.{Ok, Err}
use Rattle.std.specs.List.Sorted.{IsPermutation}
use Rattle.updown_routes.specs.Order.{IsOrder}
use Rattle.updown_routes.proofs.Orders.{sorted_is_order}
use Rattle.updown_routes.proofs.positions.order.Goals as goal

pub returns : goal.returns
returns c =
    let sorted = c.sort_unstable.new.self.items in
    let moved = subst (λ (xs : List (ℕ × ℕ)). IsPermutation xs sorted) c.in_ok-ranked.ensures c.sort_unstable.ensures.permutation in
    elim c.indices.result as (λ r. IfOk r (λ indices. indices.items ≡ map (λ x. x.1) c.deref.result.now)
    → IfOk r (λ order. IsOrder c.args.ranks.now order.items)) [
      | Ok found ↦ λ e. sorted_is_order c.args.ranks.now sorted found.items moved c.sort_unstable.ensures.sorted (e ∙ ap (map (λ x. x.1)) c.deref.ensures.value)
      | Err e ↦ λ are. tt
    ] c.indices.ensures
