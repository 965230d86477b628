use Rattle.std.proofs.Common.{ap, ◌∙◌, arith, length}
use Rattle.balanced_choices.specs.BalancedChoices.{near_first}
use Rattle.balanced_choices.proofs.InOrder.{next_position}
use Rattle.balanced_choices.proofs.choice.Choosing.choose_in_turn.Goals as goal

pub first_choice-choice-requires-clause-position : goal.first_choice-choice-requires-clause-position
first_choice-choice-requires-clause-position c =
    next_position c.self.inside.ways.now.edges c.deref-position-items.result.now c.loop-position.position-index
    (c.deref-position-items.ensures.value ∙ c.ways.invariant.order_is ∙ ap (λ s. near_first s.edges) c.ways.view_is) c.loop-position-test.true

pub take-requires : goal.take-requires
take-requires c =
    let below = next_position c.self.inside.ways.now.edges c.deref-position-items.result.now c.loop-position.position-index
    (c.deref-position-items.ensures.value ∙ c.ways.invariant.order_is ∙ ap (λ s. near_first s.edges) c.ways.view_is) c.loop-position-test.true in
    omega (arith, below, ap (λ a. length a.ways.edges) c.self.view_is, ap (λ w. length w.edges) c.loop-position.invariant.1)
