use Rattle.std.proofs.Common.{◌≡◌, ◌-◌, ◌++◌, ℕ, List, Bool, [], ◌∷◌, sym, ap, ◌∙◌, arith, length}
use Rattle.std.specs.Prelude.{filter, not, reverse}
use Rattle.spread_labels.specs.Orders.{numbers_from}
use Rattle.balanced_choices.specs.BalancedChoices.{is_below}
use Rattle.balanced_choices.proofs.InOrder.{failing, filter_back, passing}
use Rattle.balanced_choices.proofs.choice_order.push_above.Goals as goal
use Rattle.balanced_choices.proofs.choice_order.push_above.Goals.{then-not-is_below+in_ok-push, else-not-is_below}

pub loop-left-preserved : goal.loop-left-preserved
loop-left-preserved c =
    let ways = c.args.ways.now in
    let n = length ways in
    let test : ℕ → Bool = λ p. not (is_below ways p) in
    let i = c.loop-left.left in
    let p = n - 1 - i in
    let there : c.len.result - 1 - i ≡ p = ap (λ m. m - 1 - i) c.len.ensures in
    let asked : c.is_below.result ≡ is_below ways p = c.is_below.ensures ∙ ap (is_below ways) there in
    let old : List ℕ = c.args.order.now.items in
    let found : List ℕ = filter test (reverse (numbers_from (n - i) i)) in
    let next = ap (λ xs. old ++ xs) (sym (filter_back test n i (omega (arith, c.loop-left-test.true, c.len-left-end.ensures)))) in
    elim c.if-not-is_below.branch [
      | then-not-is_below+in_ok-push w ↦
          ap (λ v. v.items) w.order-is ∙ w.in_ok-push.ensures.items ∙ (λ j. c.loop-left.invariant j ++ there j ∷ [])
          ∙ passing old found p (test p) (ap not (sym asked ∙ w.if-not-is_below.true)) ∙ next
      | else-not-is_below w ↦
          ap (λ v. v.items) w.order-is ∙ c.loop-left.invariant
          ∙ failing old found p (test p) (ap not (sym asked ∙ w.if-not-is_below.false)) ∙ next
    ]
