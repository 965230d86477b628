use Rattle.std.proofs.Common.{◌≡◌, ◌<◌, ◌++◌, ℕ, List, All, sym, ap, subst, ◌∙◌, length}
use Rattle.std.specs.Prelude.{filter, not, reverse}
use Rattle.spread_labels.specs.Orders.{numbers_from}
use Rattle.balanced_choices.specs.BalancedChoices.{is_below, near_first}
use Rattle.balanced_choices.proofs.InOrder.{near_first_positions}
use Rattle.balanced_choices.proofs.choice_order.near_first.Goals as goal

pub returns-clause-positions : goal.returns-clause-positions
returns-clause-positions c =
    let ways = c.args.ways.now in
    let n = length ways in
    let above : List ℕ = filter (λ p. not (is_below ways p)) (reverse (numbers_from 0 n)) in
    let below : List ℕ = filter (is_below ways) (numbers_from 0 n) in
    let is : c.push_below.new.order.items ≡ near_first ways =
    c.in_ok-push_below.ensures ∙ ap (λ xs. xs ++ below) (c.in_ok-push_above.ensures ∙ ap (λ xs. xs ++ above) c.in_ok-order.ensures.items) in
    subst (All (λ p. p < n)) (sym is) (near_first_positions ways)
