use Rattle.std.proofs.Common.{◌≡◌, ◌++◌}
use Rattle.std.specs.Prelude.{filter}
use Rattle.spread_labels.specs.Orders.{numbers_from}
use Rattle.balanced_choices.specs.BalancedChoices.{is_below}
use Rattle.balanced_choices.proofs.choice_order.push_below.Given as goal

-- those of the positions so far
abbrev pub invariant-loop-position : goal.invariant-loop-position
invariant-loop-position l = l.order.items ≡ l.fn.order.items ++ filter (is_below l.ways) (numbers_from 0 l.position)
