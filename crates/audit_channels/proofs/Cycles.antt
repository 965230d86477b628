-- Whether one channel follows another.
use Rattle.std.proofs.Common.{◌≡◌, ℕ, true, List, refl, sym, subst}
use Rattle.std.specs.Prelude.{◌↔◌, Contains, ◌==◌}
use Rattle.std.specs.List.{list_any}
use Rattle.std.proofs.lemmas.Bool.{eqb-true, eq-eqb}
use Rattle.audit_channels.proofs.Passing.{found, list_any_true}

-- a channel is in a list exactly if one of the list is equal to it
pub is_among : (following : List ℕ) (next : ℕ) → (list_any (λ c. next == c) following ≡ true) ↔ Contains following next
is_among following next = (there, λ h. list_any_true (λ c. next == c) following next h (eq-eqb next next refl))
  where
    there : list_any (λ c. next == c) following ≡ true → Contains following next
    there e =
        let f = found (λ c. next == c) following e in
        subst (λ (x : ℕ). Contains following x) (sym (eqb-true next f.x f.passes)) f.there
