-- The positions that a told order gives.
use Rattle.std.proofs.Common.{◌≡◌, ◌∙◌, ◌<◌, ◌≤◌, ◌-◌, ◌==◌, ℕ, zero, suc, Bool, true, false, cond, List, [], ◌∷◌, length, refl, sym, ap}
use Rattle.std.proofs.Common.{arith, inl, inr}
use Rattle.std.specs.Prelude.{slice_index_or, slice_set}
use Rattle.std.proofs.lemmas.Bool.{cases_lt, eq-eqb, ne_eqb}
use Rattle.std.proofs.lemmas.List.{get_or_past, length-set}
use Rattle.std.proofs.lemmas.List.FromFn.{get_or-map-range_with_len, length-map-range_with_len}
use Rattle.subnet_view.specs.Reading.{Cells}
use Rattle.held_tables.specs.Held.{HeldPlan}
use Rattle.next_tables.specs.SwitchPositions.{position_at}
use Rattle.held_order.specs.ToldOrder.{AreTaken, is_left, position_in}
use Rattle.held_order.specs.Orders.{told_positions}

-- the position of a vertex, by its first occurrence
pub found_in : (xs : List ℕ) (s k : ℕ) → k < length xs → slice_index_or xs k 0 ≡ s → ((i : ℕ) → i < k → slice_index_or xs i 0 ≡ s → ⊥)
    → position_in xs s ≡ length xs - 1 - k
found_in [] s k h is none = absurd (omega arith)
found_in (x ∷ xs) s zero h is none =
    let e : (x == s) ≡ true = eq-eqb x s is in
    let n : length xs ≡ suc (length xs) - 1 - 0 = omega arith in
    ap (λ b. cond b (length xs) (position_in xs s)) e ∙ n
found_in (x ∷ xs) s (suc k) h is none =
    let e : (x == s) ≡ false = ne_eqb x s (none 0 (omega arith)) in
    let rest = found_in xs s k (omega (arith, h)) is (λ i l. none (suc i) (omega (arith, l))) in
    let n : length xs - 1 - k ≡ suc (length xs) - 1 - suc k = omega arith in
    ap (λ b. cond b (length xs) (position_in xs s)) e ∙ rest ∙ n

pub not_found_in : (xs : List ℕ) (s : ℕ) → ((i : ℕ) → i < length xs → slice_index_or xs i 0 ≡ s → ⊥) → position_in xs s ≡ 0
not_found_in [] s none = refl
not_found_in (x ∷ xs) s none =
    let e : (x == s) ≡ false = ne_eqb x s (none 0 (omega arith)) in
    ap (λ b. cond b (length xs) (position_in xs s)) e ∙ not_found_in xs s (λ i l. none (suc i) (omega (arith, l)))

-- a flag that is set is within the list
left_within : (left : List Bool) (x : ℕ) → is_left left x ≡ true → x < length left
left_within left x h =
    elim (cases_lt x (length left)) [
      | inl less ↦ less
      | inr past ↦ absurd (clash (slice_index_or left x false) (get_or_past left x false past) h)
    ]
  where
    clash : (b : Bool) → b ≡ false → b ≡ true → ⊥
    clash b f t = absurd (cc)

-- what is not a switch is not taken
beyond : (cells : Cells) (tables : HeldPlan) (preferred taken : List ℕ) (left end : List Bool) → AreTaken cells tables preferred left taken end
    → (s : ℕ) → length left ≤ s → position_in taken s ≡ 0
beyond cells tables preferred [] left end are s h = refl
beyond cells tables preferred (x ∷ taken) left end are s h =
    let less = left_within left x are.0.is_left in
    let e : (x == s) ≡ false = ne_eqb x s (λ same. omega (arith, less, h, same)) in
    let long = length-set left x false in
    ap (λ b. cond b (length taken) (position_in taken s)) e
    ∙ beyond cells tables preferred taken (slice_set left x false) end are.1 s (omega (arith, h, long))

-- the positions of all switches are those in the list
pub told_at : (cells : Cells) (tables : HeldPlan) (preferred taken : List ℕ) (left end : List Bool) (n : ℕ) → AreTaken cells tables preferred left taken end
    → length left ≡ n → ◌≡◌ {A = ℕ → ℕ} (position_at (told_positions taken n)) (position_in taken)
told_at cells tables preferred taken left end n are long =
    let each : (s : ℕ) → position_at (told_positions taken n) s ≡ position_in taken s =
    λ s. elim (cases_lt s n) [
      | inl less ↦ get_or-map-range_with_len (position_in taken) 0 n s s 0 less (omega arith)
      | inr past ↦ get_or_past (told_positions taken n) s 0 (omega (arith, past, length-map-range_with_len (position_in taken) 0 n))
          ∙ sym (beyond cells tables preferred taken left end are s (omega (arith, past, long)))
    ] in
    λ i s. each s i
