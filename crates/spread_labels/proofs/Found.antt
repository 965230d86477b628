-- Where a number stands in a list.
use Rattle.std.proofs.Common.{◌≡◌, ◌<◌, ℕ, zero, suc, cond, List, [], ◌∷◌, length, get_or, refl, sym, ap, ◌∙◌, arith}
use Rattle.std.proofs.lemmas.Bool.{eq-eqb, ne_eqb}
use Rattle.spread_labels.specs.Orders.{position_of}

pub found_at : (xs : List ℕ) (s k : ℕ) → k < length xs → get_or xs k 0 ≡ s → ((i : ℕ) → i < k → get_or xs i 0 ≡ s → ⊥) → k ≡ position_of xs s
found_at [] s k less is before = absurd (omega arith)
found_at (x ∷ xs) s zero less is before = sym (ap (λ t. cond t 0 (suc (position_of xs s))) (eq-eqb x s is))
found_at (x ∷ xs) s (suc k) less is before =
    ap suc (found_at xs s k (omega arith) is (λ i low same. before (suc i) (omega arith) same))
    ∙ sym (ap (λ t. cond t 0 (suc (position_of xs s))) (ne_eqb x s (before 0 (omega arith))))

pub not_found : (xs : List ℕ) (s : ℕ) → ((i : ℕ) → i < length xs → get_or xs i 0 ≡ s → ⊥) → length xs ≡ position_of xs s
not_found [] s none = refl
not_found (x ∷ xs) s none =
    ap suc (not_found xs s (λ i low same. none (suc i) (omega arith) same))
    ∙ sym (ap (λ t. cond t 0 (suc (position_of xs s))) (ne_eqb x s (none 0 (omega arith))))
