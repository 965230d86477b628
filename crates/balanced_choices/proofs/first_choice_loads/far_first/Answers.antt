use Rattle.std.proofs.Common.{◌<◌, ℕ, All, sym, ap, subst, ◌∙◌, length}
use Rattle.std.specs.Prelude.{reverse}
use Rattle.balanced_choices.specs.BalancedChoices.{near_first}
use Rattle.balanced_choices.proofs.InOrder.{all_reversed, near_first_positions}
use Rattle.balanced_choices.proofs.first_choice_loads.far_first.Goals as goal

pub returns-clause-positions : goal.returns-clause-positions
returns-clause-positions c =
    let ways = c.args.ways.now in
    let P : ℕ → Type 0 = λ p. p < length ways in
    subst (All P) (sym (c.reverse.ensures.items ∙ ap reverse c.in_ok-order.ensures.order))
    (all_reversed P (near_first ways) (near_first_positions ways))
