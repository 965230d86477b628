-- Flags that tell which vertices stand in a list.
use Rattle.std.proofs.Common.{◌≡◌, ◌<◌, ◌++◌, ◌||◌, ◌==◌, ℕ, List, [], ◌∷◌, inl, inr, refl, sym, ap, ◌∙◌, true, false, Bool, length}
use Rattle.std.proofs.lemmas.Bool.{cases_eq, eq-eqb, ne_eqb}
use Rattle.std.proofs.lemmas.List.{get_or-set_same, get_or-set_other}
use Rattle.std.specs.Prelude.{slice_set}
use Rattle.depth_orders.specs.DepthOrder.{flag_at, is_among}

or_false : (b : Bool) → (b || false) ≡ b
or_false true = refl
or_false false = refl

or_true : (b : Bool) → (b || true) ≡ true
or_true true = refl
or_true false = refl

among_more : (xs : List ℕ) (v s : ℕ) → is_among (xs ++ v ∷ []) s ≡ (is_among xs s || (v == s))
among_more [] v s = or_false (v == s)
among_more (x ∷ xs) v s =
    elim (x == s) as (λ b. (b || is_among (xs ++ v ∷ []) s) ≡ ((b || is_among xs s) || (v == s))) [ true ↦ refl | false ↦ among_more xs v s ]

-- one more vertex
pub flags_more : (flags : List Bool) (vertices : List ℕ) (v : ℕ) → v < length flags
    → ((s : ℕ) → flag_at flags s ≡ is_among vertices s)
    → (s : ℕ) → flag_at (slice_set flags v true) s ≡ is_among (vertices ++ v ∷ []) s
flags_more flags vertices v below are s =
    elim (cases_eq s v) [
      | inl same ↦ ap (flag_at (slice_set flags v true)) same ∙ get_or-set_same flags v true false below
          ∙ sym (among_more vertices v s ∙ ap (λ b. is_among vertices s || b) (eq-eqb v s (sym same)) ∙ or_true (is_among vertices s))
      | inr other ↦ get_or-set_other flags v s true false other ∙ are s
          ∙ sym (among_more vertices v s ∙ ap (λ b. is_among vertices s || b) (ne_eqb v s (λ e. other (sym e))) ∙ or_false (is_among vertices s))
    ]
