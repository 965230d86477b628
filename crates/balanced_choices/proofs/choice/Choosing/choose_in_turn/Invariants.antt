use Rattle.std.proofs.Common.{◌≡◌, drop}
use Rattle.balanced_choices.specs.BalancedChoices.{first_choices, near_first}
use Rattle.balanced_choices.proofs.choice.Choosing.choose_in_turn.Given as goal

-- the positions that are left do the rest
abbrev pub invariant-loop-position : goal.invariant-loop-position
invariant-loop-position l =
    let ways = l.fn.self.ways in
    let order = near_first ways.edges in
    let first = first_choices ways.edges ways.sent ways.digits in
    (first (drop l.position-index order) l.number l.self.chosen ≡ first order l.number l.fn.self.chosen) × (l.self.ways ≡ ways)
