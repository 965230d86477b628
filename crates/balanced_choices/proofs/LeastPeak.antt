-- The candidate of the least peak, one candidate after the other.
use Rattle.std.proofs.Common.{◌≡◌, ◌+◌, ℕ, suc, List, ◌∷◌, sym, ap, ◌∙◌, add-one, true, false, cond}
use Rattle.std.specs.Prelude.{nat_lt}
use Rattle.balanced_choices.specs.Ways.{least_from}

module _ (best least k n : ℕ) (ns : List ℕ) where
  -- the next is less
  pub least_next : nat_lt n least ≡ true → least_from k n (k + 1) ns ≡ least_from best least k (n ∷ ns)
  least_next is =
      ap (λ j. least_from k n j ns) (add-one k)
      ∙ sym (ap (λ b. cond b (least_from k n (suc k) ns) (least_from best least (suc k) ns)) is)

  -- the next is not less
  pub least_kept : nat_lt n least ≡ false → least_from best least (k + 1) ns ≡ least_from best least k (n ∷ ns)
  least_kept is =
      ap (λ j. least_from best least j ns) (add-one k)
      ∙ sym (ap (λ b. cond b (least_from k n (suc k) ns) (least_from best least (suc k) ns)) is)
