-- From the told order.
use Rattle.std.proofs.Common.{◌≡◌, ◌∙◌, ℕ, List, Option, Vec, Global, Some, ap, length, subst}
use Rattle.std.specs.Option.{option_map}
use Rattle.std.proofs.lemmas.List.FromFn.{length-map-range_with_len}
use Rattle.fact_store.specs.View.{cells_of}
use Rattle.held_order.specs.ToldOrder.{IsImpliedOrder, position_in}
use Rattle.two_orders.specs.Growth.{grown_by}
use Rattle.held_order.specs.Orders.{orders_from, told_positions}
use Rattle.held_order.proofs.orders.orders.Goals as goal

pub orders_from-requires-clause-told : goal.orders_from-requires-clause-told
orders_from-requires-clause-told c =
    ap (λ (xs : List ℕ). length xs) c.in_ok-told-in-Some.ensures
    ∙ length-map-range_with_len (position_in c.deref-in-Some.result.now) 0 c.len.result ∙ c.len.ensures

pub returns-in-Some : goal.returns-in-Some
returns-in-Some c =
    let cells = cells_of c.args.held.now.facts in
    let held = c.args.held.now.held in
    let edges = c.args.edges.now in
    let plan = c.args.plan.now in
    let by = c.args.preferred.now in
    let list : c.deref.result.now ≡ grown_by edges by = c.deref.ensures.value ∙ c.in_ok-list.ensures in
    let told : IsImpliedOrder cells held (grown_by edges by) (Some c.in-Some.taken.items) =
    subst (λ (ps : List ℕ). IsImpliedOrder cells held ps (Some c.in-Some.taken.items)) list
    (subst (λ (o : Option (Vec ℕ Global)). IsImpliedOrder cells held c.deref.result.now (option_map (λ (v : Vec ℕ Global). v.items) o)) c.in-Some.is
    c.in_ok-taken.ensures) in
    let positions = c.in_ok-told-in-Some.ensures ∙ (λ i. told_positions (c.deref-in-Some.ensures.value i) (c.len.ensures i)) in
    (c.in-Some.taken.items, told, c.in_ok-orders-in-Some.ensures ∙ ap (orders_from cells held edges plan) positions)
