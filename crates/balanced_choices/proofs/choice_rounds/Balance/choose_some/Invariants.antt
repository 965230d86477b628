use Rattle.std.proofs.Common.{◌≡◌, drop}
use Rattle.balanced_choices.specs.BalancedChoices.{ends_of, with_all}
use Rattle.balanced_choices.proofs.AsLong.{IsAsLong}
use Rattle.balanced_choices.proofs.choice_rounds.Balance.choose_some.Given as goal

-- the destinations that are left do the rest
abbrev pub invariant-loop-k : goal.invariant-loop-k
invariant-loop-k l =
    let with = with_all l.round l.traffic.edges l.traffic.sent l.traffic.digits in
    (with l.self l.end (drop l.k l.destinations) ≡ with l.fn.self l.first l.destinations)
    × (ends_of l.end (drop l.k l.destinations) ≡ ends_of l.first l.destinations)
    × IsAsLong l.fn.self l.self
