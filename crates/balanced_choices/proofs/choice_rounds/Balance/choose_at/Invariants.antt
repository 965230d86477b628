use Rattle.std.proofs.Common.{◌≡◌, ◌+◌, ◌-◌, ◌*◌, All, length, map}
use Rattle.spread_labels.specs.Orders.{numbers_from}
use Rattle.balanced_choices.specs.BalancedChoices.{Balance, near_first, with_ends}
use Rattle.balanced_choices.proofs.choice_rounds.Balance.choose_at.Given as goal

-- the ends that are left do the rest
abbrev pub invariant-loop-k : goal.invariant-loop-k
invariant-loop-k l =
    let d = l.destination in
    let with = with_ends l.round l.ways.edges l.ways.sent l.ways.digits (near_first l.ways.edges) d.number l.first in
    let now : Balance = record { choices = map (λ own. own.items) l.self-inside.choices.items; loads = l.self-inside.loads.items } in
    (with now (numbers_from (l.first + l.k) (d.ends - l.k)) ≡ with l.fn.self (numbers_from l.first d.ends))
    × (length l.self-inside.choices.items ≡ length l.fn.self.choices)
    × All (λ own. length own.items ≡ length l.ways.edges) l.self-inside.choices.items
    × (length l.self-inside.loads.items ≡ 256 * length l.ways.edges)
