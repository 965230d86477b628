use Rattle.std.proofs.Common.{◌≡◌, ◌≤◌, ◌-◌, drop, length}
use Rattle.balanced_choices.specs.BalancedChoices.{ends_of, with_all}
use Rattle.balanced_choices.proofs.AsLong.{IsAsLong}
use Rattle.balanced_choices.proofs.choice_rounds.Balance.choose_all.Given as goal

-- the destinations that are left do the rest
abbrev pub invariant-loop-first : goal.invariant-loop-first
invariant-loop-first l =
    let with = with_all l.round l.traffic.edges l.traffic.sent l.traffic.digits in
    (with l.self l.end (drop l.first l.destinations) ≡ with l.fn.self 0 l.destinations)
    × (ends_of l.end (drop l.first l.destinations) ≡ ends_of 0 l.destinations)
    × IsAsLong l.fn.self l.self
    × (l.first ≤ length l.destinations)

abbrev pub decreases-loop-first : goal.decreases-loop-first
decreases-loop-first l = length l.destinations - l.first
