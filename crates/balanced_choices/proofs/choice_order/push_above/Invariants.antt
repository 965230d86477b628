use Rattle.std.proofs.Common.{◌≡◌, ◌-◌, ◌++◌, length}
use Rattle.std.specs.Prelude.{filter, not, reverse}
use Rattle.spread_labels.specs.Orders.{numbers_from}
use Rattle.balanced_choices.specs.BalancedChoices.{is_below}
use Rattle.balanced_choices.proofs.choice_order.push_above.Given as goal

-- those of the positions so far
abbrev pub invariant-loop-left : goal.invariant-loop-left
invariant-loop-left l =
    l.order.items ≡ l.fn.order.items ++ filter (λ p. not (is_below l.ways p)) (reverse (numbers_from (length l.ways - l.left) l.left))
