-- Tests of numbers in an order: which numbers are equal by it.
use Rattle.std.proofs.Common.{◌≡◌, ◌&&◌, ◌==◌, ◌∙◌, ℕ, ap, refl, sym}
use Rattle.std.proofs.lemmas.Bool.{eq-eqb, eqb-true}
use Rattle.std.proofs.lemmas.Cmp.{nat_cmp_total}
use Rattle.std.specs.Cmp.{both_ways, tied_itself}
use Rattle.std.specs.FinMap.{nat_cmp-IsAntisymmetric}
use Rattle.std.specs.Ordering.{is_eq, nat_cmp, ordering_then}
use Rattle.std.specs.declared.cmp.Ordering.{Ordering}
use Rattle.std.specs.declared.cmp.Ordering.TheVariants.{Less, Equal, Greater}
use Rattle.reply_facts.proofs.Keys.{equal_from_test}

pub same_number : (a b : ℕ) → is_eq (nat_cmp a b) ≡ (b == a)
same_number a b =
    both_ways (is_eq (nat_cmp a b)) (b == a) (λ h. eq-eqb b a (sym (nat_cmp-IsAntisymmetric a b (equal_from_test (nat_cmp a b) h))))
    (λ h. ap (λ n. is_eq (nat_cmp a n)) (eqb-true b a h) ∙ ap is_eq (tied_itself nat_cmp_total a))

pub eq_then : (x y : Ordering) → is_eq (ordering_then x y) ≡ (is_eq x && is_eq y)
eq_then Less y = refl
eq_then Equal y = refl
eq_then Greater y = refl
