-- The first channel without a number, or none.
use Rattle.std.proofs.Common.{◌≡◌, ℕ, List, ap, sym, ◌∙◌, subst, true}
use Rattle.std.specs.Prelude.{None, Some, position, ◌==◌}
use Rattle.audit_channels.specs.Numbers.{has_none}
use Rattle.audit_channels.proofs.Given.{first_has_none, all_rise}
use Rattle.audit_channels.proofs.order.order_channels.Goals as goal

pub cycle_from-requires-clause-first : goal.cycle_from-requires-clause-first
cycle_from-requires-clause-first c =
    let numbers = c.in_ok-numbers.numbers.items in
    let found : position (λ (n : ℕ). n == 0) numbers ≡ Some c.in-Some.first =
    ap (position (λ (n : ℕ). n == 0)) (sym c.deref.ensures.value) ∙ sym c.first_without.ensures ∙ c.in-Some.is in
    subst (λ (xs : List ℕ). has_none xs c.in-Some.first ≡ true) (sym c.deref-in-Some.ensures.value) (first_has_none numbers c.in-Some.first found)

pub returns-in-None-clause-order : goal.returns-in-None-clause-order
returns-in-None-clause-order c =
    let numbers = c.in_ok-numbers.numbers.items in
    let none : position (λ (n : ℕ). n == 0) numbers ≡ None =
    ap (position (λ (n : ℕ). n == 0)) (sym c.deref.ensures.value) ∙ sym c.first_without.ensures ∙ c.in-None.is in
    all_rise c.args.waits.now numbers c.in_ok-numbers.ensures none
