use Rattle.std.proofs.Common.{◌++◌, ℕ, List, [], ◌∷◌, sym, ap, ◌∙◌}
use Rattle.std.specs.Prelude.{filter}
use Rattle.spread_labels.specs.Orders.{numbers_from}
use Rattle.balanced_choices.specs.BalancedChoices.{is_below}
use Rattle.spread_labels.proofs.Earlier.{filter_grown}
use Rattle.balanced_choices.proofs.InOrder.{failing, passing}
use Rattle.balanced_choices.proofs.choice_order.push_below.Goals as goal
use Rattle.balanced_choices.proofs.choice_order.push_below.Goals.{then-is_below+in_ok-push, else-is_below}

pub loop-position-preserved : goal.loop-position-preserved
loop-position-preserved c =
    let test = is_below c.args.ways.now in
    let p = c.loop-position.position in
    let old : List ℕ = c.args.order.now.items in
    let found : List ℕ = filter test (numbers_from 0 p) in
    let next = ap (λ xs. old ++ xs) (sym (filter_grown test p)) in
    elim c.if-is_below.branch [
      | then-is_below+in_ok-push w ↦
          ap (λ v. v.items) w.order-is ∙ w.in_ok-push.ensures.items ∙ ap (λ xs. xs ++ p ∷ []) c.loop-position.invariant
          ∙ passing old found p (test p) (sym c.is_below.ensures ∙ w.if-is_below.true) ∙ next
      | else-is_below w ↦
          ap (λ v. v.items) w.order-is ∙ c.loop-position.invariant
          ∙ failing old found p (test p) (sym c.is_below.ensures ∙ w.if-is_below.false) ∙ next
    ]
