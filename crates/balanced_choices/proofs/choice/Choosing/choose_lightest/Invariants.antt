use Rattle.std.proofs.Common.{◌≡◌, ℕ, drop}
use Rattle.balanced_choices.specs.BalancedChoices.{Chosen, choose_each, near_first}
use Rattle.balanced_choices.specs.Ways.{lightest}
use Rattle.balanced_choices.proofs.choice.Choosing.choose_lightest.Given as goal

-- the positions that are left do the rest
abbrev pub invariant-loop-position : goal.invariant-loop-position
invariant-loop-position l =
    let ways = l.fn.self.ways in
    let choice : Chosen → ℕ → ℕ = λ old p. lightest ways.edges old.choices old.loads p in
    let each = choose_each choice ways.edges ways.sent in
    let order = near_first ways.edges in
    (each l.self.chosen (drop l.position-index order) ≡ each l.fn.self.chosen order) × (l.self.ways ≡ ways)
