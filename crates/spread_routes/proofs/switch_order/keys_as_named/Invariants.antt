use Rattle.std.proofs.Common.{◌≡◌, ◌≤◌, length}
use Rattle.spread_routes.proofs.NamedKeys.{keys_behind}
use Rattle.spread_routes.proofs.switch_order.keys_as_named.Given as goal

-- the keys by what the list names from here on
abbrev pub invariant-loop-number : goal.invariant-loop-number
invariant-loop-number l = (l.number ≤ length l.switches) × (l.keys.items ≡ keys_behind l.graph l.switches l.number)

abbrev pub decreases-loop-number : goal.decreases-loop-number
decreases-loop-number l = l.number
