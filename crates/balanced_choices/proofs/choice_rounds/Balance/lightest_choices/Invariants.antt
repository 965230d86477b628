use Rattle.std.proofs.Common.{◌≡◌, ◌≤◌, ◌-◌, List, ℕ, map}
use Rattle.std.specs.Prelude.{option_map, unwrap_or}
use Rattle.spread_labels.specs.Level.{greatest}
use Rattle.balanced_choices.specs.BalancedChoices.{Balance, later_rounds, lightest_choices}
use Rattle.balanced_choices.proofs.AsLong.{IsAsLong}
use Rattle.balanced_choices.proofs.choice_rounds.Balance.lightest_choices.Given as goal

-- the best of the rounds so far, and the rounds that are left, give the choices of all rounds
abbrev pub invariant-loop-round : goal.invariant-loop-round
invariant-loop-round l =
    let best : List (List ℕ) = unwrap_or (option_map (λ cs. map (λ own. own.items) cs.items) l.best) l.self.choices in
    let rounds : ℕ → ℕ → Balance → List Balance =
    λ most round old. later_rounds most round l.traffic.edges l.traffic.sent l.traffic.digits l.destinations old in
    (lightest_choices best l.least (rounds (3 - l.round) l.round l.self)
    ≡ lightest_choices l.fn.self.choices (greatest 0 l.fn.self.loads) (rounds 2 1 l.fn.self))
    × IsAsLong l.fn.self l.self
    × (l.round ≤ 3)
