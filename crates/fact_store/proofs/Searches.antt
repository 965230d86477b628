-- A search that narrows, and how many steps it takes.
use Rattle.std.proofs.Common.{◌≡◌, ℕ, zero, suc, ◌+◌, ◌*◌, ◌/◌, ◌^◌, ◌<◌, ◌≤◌, List, [], ◌∷◌, length, refl, sym, ap, ◌∙◌, subst, arith, inl, inr}
use Rattle.std.proofs.Math.Nat.{pow-suc, pow-le-pow_right}
use Rattle.std.proofs.Math.Pow.{pow-lt}
use Rattle.std.proofs.lemmas.Bool.{cases_order}
use Rattle.std.proofs.lemmas.Option.{slice_get_cases}
use Rattle.std.specs.Option.{option_map_or}
use Rattle.std.specs.Prelude.{Option, None, Some, slice_get}
use Rattle.std.specs.declared.cmp.Ordering.{Ordering}
use Rattle.std.specs.declared.cmp.Ordering.TheVariants.{Less, Equal, Greater}
use Rattle.fact_join.specs.declared.cell.Cell.{Cell}
use Rattle.reply_facts.specs.declared.key.Key.{Key}
use Rattle.reply_facts.specs.declared.value.Value.{Value}
use Rattle.fact_store.specs.Cells.{AreCells, IsIndexFor}
use Rattle.fact_store.specs.Comparisons.{CountsSearch, HasDigits, IsBudget, Leaves, all, later, earlier, with_key, without}
use Rattle.reply_facts.specs.Key.{key_cmp}
use Rattle.reply_facts.proofs.Keys.{key_exact, key_total}
use Rattle.fact_store.proofs.Orders.{greater_back}
use Rattle.fact_store.proofs.CellOrder.{held, less_back, ends_at, rising_indices}

-- digits --------------------------------------------------------------------------------------------

-- a number of 64 bits has no more than 64 digits
pub few_digits : (n s : ℕ) → n < 2 ^ 64 → HasDigits n s → s ≤ 64
few_digits n zero h d = omega arith
few_digits n (suc k) h d =
    elim (cases_order k 64) [
      | inl e ↦ absurd (omega (arith, ap (λ (m : ℕ). 2 ^ m) e))
      | inr (inl l) ↦ omega arith
      | inr (inr g) ↦ absurd (omega (arith, pow-lt {i = 64} {j = k} g))
    ]

-- a number that has so many digits has fewer
pub fewer_digits : (n s left : ℕ) → HasDigits n (s + left) → HasDigits n s
fewer_digits n zero left d = tt
fewer_digits n (suc s) left d =
    let more : suc s + left ≡ suc (s + left) = omega arith in
    let least : 2 ^ (s + left) ≤ n = subst (HasDigits n) more d in
    let below : 2 ^ s ≤ 2 ^ (s + left) = pow-le-pow_right {n = 2} (omega arith) {i = s} {j = s + left} (omega arith) in
    omega (arith, least, below)

-- no digit yet
pub no_budget : (n : ℕ) → IsBudget n 0 0
no_budget n = record { left = 0; digits = tt; full = refl }

-- one digit more, where the number is not reached
pub more_budget : (n ones : ℕ) → IsBudget n 0 ones → ones < n → IsBudget n 0 (ones * 2 + 1)
more_budget n ones b h =
    let digits : HasDigits n (suc b.left) = omega (arith, b.full) in
    let one : 0 + suc b.left ≡ suc b.left = omega arith in
    record {
      left = suc b.left;
      digits = subst (HasDigits n) (sym one) digits;
      full = omega (arith, b.full, pow-suc 2 b.left);
    }

-- what is below a number of 64 bits and all ones is so twice
pub budget_fits : (n ones : ℕ) → n < 2 ^ 64 → IsBudget n 0 ones → ones < n → ones * 2 + 1 < 2 ^ 64
unfolding more_budget
budget_fits n ones f b h = below b.left (more_budget n ones b h).full (few_digits n (suc b.left) f (omega (arith, b.full)))
  where
    below : (left : ℕ) → ones * 2 + 1 + 1 ≡ 2 ^ (suc left) → suc left ≤ 64 → ones * 2 + 1 < 2 ^ 64
    below left e l = omega (arith, e, pow-le-pow_right {n = 2} (omega arith) {i = suc left} {j = 64} l)

-- one more comparison, of which either side has half at most
pub record IsHalved (n steps most : ℕ) : Type 0 where
  pub next : IsBudget n (steps + 1) (most / 2)
  pub twice : 2 * (most / 2) + 1 ≡ most

pub halved : (n steps most : ℕ) → IsBudget n steps most → 0 < most → IsHalved n steps most
halved n steps most b some = from b.left b.digits b.full
  where
    from : (left : ℕ) → HasDigits n (steps + left) → most + 1 ≡ 2 ^ left → IsHalved n steps most
    from zero d f = absurd (omega (arith, f, some))
    from (suc left) d f =
        let one : steps + suc left ≡ steps + 1 + left = omega arith in
        let half : most + 1 ≡ 2 * 2 ^ left = omega (arith, f, pow-suc 2 left) in
        record {
          next = record { left = left; digits = subst (HasDigits n) one d; full = omega (arith, half) };
          twice = omega (arith, half);
        }

-- so the number has a digit for this one too
pub one_more_digit : (n steps most : ℕ) → IsBudget n steps most → 0 < most → HasDigits n (steps + 1)
one_more_digit n steps most b some = let half = halved n steps most b some in fewer_digits n (steps + 1) half.next.left half.next.digits

-- a search --------------------------------------------------------------------------------------------

-- the key's index lies from `low` on and not after `high`, and so many keys were compared
pub record IsNarrowed (key : Key) (cells : List (Key × Cell Value)) (low high steps : ℕ) : Type 0 where
  pub ordered : low ≤ high
  pub upto : high ≤ length cells
  pub below : (j : ℕ) (e : Key × Cell Value) → j < low → slice_get cells j ≡ Some e → key_cmp e.0 key ≡ Less
  pub above : (j : ℕ) (e : Key × Cell Value) → high ≤ j → slice_get cells j ≡ Some e → key_cmp e.0 key ≡ Greater
  pub compared : List Key
  pub leaves : Leaves key cells compared low high
  pub counted : steps ≡ length compared

-- before the first comparison
pub not_narrowed : (key : Key) (cells : List (Key × Cell Value)) → IsNarrowed key cells 0 (length cells) 0
not_narrowed key cells =
    record {
      ordered = omega arith;
      upto = omega arith;
      below = λ j e h k. absurd (omega arith);
      above = λ j e h k. absurd (none j e h k);
      compared = [];
      leaves = all;
      counted = refl;
    }
  where
    none : (j : ℕ) (e : Key × Cell Value) → length cells ≤ j → slice_get cells j ≡ Some e → ⊥
    none j e h k = elim (slice_get_cases cells j).1 [ inl w ↦ let low = w.1 in omega arith | inr w ↦ cc ]

module _ (key : Key) (cells : List (Key × Cell Value)) (are : AreCells cells) (low high steps m : ℕ) (n : IsNarrowed key cells low high steps) (from : low
    ≤ m) (until : m < high) (e : Key × Cell Value)
    (at : slice_get cells m ≡ Some e) where
  -- above a lesser key
  pub narrowed_up : key_cmp e.0 key ≡ Less → IsNarrowed key cells (m + 1) high (steps + 1)
  narrowed_up l =
      record {
        ordered = omega arith;
        upto = n.upto;
        below = λ j f h k. elim (cases_order j m) [
          | inl i ↦ subst (λ (z : Key × Cell Value). key_cmp z.0 key ≡ Less) (some_is e f (sym at ∙ ap (slice_get cells) (sym i) ∙ k)) l
          | inr (inl b) ↦ key_total.trans f.0 e.0 key (rising_indices cells (held _ are.rising) j m f e b k at) l
          | inr (inr a) ↦ absurd (omega arith)
        ];
        above = n.above;
        compared = e.0 ∷ n.compared;
        leaves = later n.compared low high m e n.leaves from until at l;
        counted = omega (arith, n.counted);
      }
    where
      some_is : (a b : Key × Cell Value) → Some a ≡ Some b → a ≡ b
      some_is a b e = cc

  -- below a greater one
  pub narrowed_down : key_cmp e.0 key ≡ Greater → IsNarrowed key cells low m (steps + 1)
  narrowed_down g =
      record {
        ordered = omega arith;
        upto = omega (arith, n.upto);
        below = n.below;
        above = λ j f h k. elim (cases_order j m) [
          | inl i ↦ subst (λ (z : Key × Cell Value). key_cmp z.0 key ≡ Greater) (some_is e f (sym at ∙ ap (slice_get cells) (sym i) ∙ k)) g
          | inr (inl b) ↦ absurd (omega arith)
          | inr (inr a) ↦ greater_back key f.0 (key_total.trans key e.0 f.0 (less_back e.0 key g) (rising_indices cells (held _ are.rising) m j e f a at k))
        ];
        compared = e.0 ∷ n.compared;
        leaves = earlier n.compared low high m e n.leaves from until at g;
        counted = omega (arith, n.counted);
      }
    where
      some_is : (a b : Key × Cell Value) → Some a ≡ Some b → a ≡ b
      some_is a b e = cc

  -- or at the key's
  pub ends_with : key_cmp e.0 key ≡ Equal → CountsSearch key cells (steps + 1)
  ends_with q =
      record {
        compared = e.0 ∷ n.compared;
        is_search = with_key n.compared low high m e n.leaves from until at q;
        counted = omega (arith, n.counted);
      }

-- where no index is left
pub ends_without : (key : Key) (cells : List (Key × Cell Value)) (low high steps : ℕ) → IsNarrowed key cells low high steps → high ≤ low
    → CountsSearch key cells steps
ends_without key cells low high steps n h =
    record { compared = n.compared; is_search = without n.compared low high n.leaves h; counted = n.counted }

-- how the key of a cell stands to another; where there is none it is greater
abbrev pub order_of : Key → Option (Key × Cell Value) → Ordering
order_of key s = option_map_or (λ e. key_cmp e.0 key) s Greater

-- a cell whose key is not greater is there
less_there : (key : Key) (s : Option (Key × Cell Value)) → Less ≡ order_of key s → (e : Key × Cell Value) × (s ≡ Some e) × (key_cmp e.0 key ≡ Less)
less_there key None h = absurd (cc)
less_there key (Some e) h = (e, refl, sym h)

equal_there : (key : Key) (s : Option (Key × Cell Value)) → Equal ≡ order_of key s → (e : Key × Cell Value) × (s ≡ Some e) × (key_cmp e.0 key ≡ Equal)
equal_there key None h = absurd (cc)
equal_there key (Some e) h = (e, refl, sym h)

module _ (key : Key) (cells : List (Key × Cell Value)) (are : AreCells cells) (m : ℕ) where
  -- the key has this cell
  pub stands_at : Equal ≡ order_of key (slice_get cells m) → (x : Cell Value) × (slice_get cells m ≡ Some (key, x))
  stands_at h =
      let e = equal_there key (slice_get cells m) h in
      let same : e.0.0 ≡ key = key_exact e.0.0 key e.2 in
      (e.0.1, e.1 ∙ (λ i. Some (same i, e.0.1)))

  -- a key after a cell, and before the next one if there is one, goes in between them
  pub stands_between : Less ≡ order_of key (slice_get cells m) → Greater ≡ order_of key (slice_get cells (m + 1)) → IsIndexFor key cells (m + 1)
  stands_between h g =
      let e = less_there key (slice_get cells m) h in
      let within : m < length cells = elim (slice_get_cases cells m).1 [ inl w ↦ w.1 | inr w ↦ absurd (cc) ] in
      let up : IsNarrowed key cells (m + 1) (length cells) 1 =
      narrowed_up key cells are 0 (length cells) 0 m (not_narrowed key cells) (omega arith) within e.0 e.1 e.2 in
      elim (slice_get_cases cells (m + 1)).1 [
        | inl w ↦
            let greater : key_cmp w.0.0 key ≡ Greater = sym (g ∙ ap (order_of key) w.2) in
            let down : IsNarrowed key cells (m + 1) (m + 1) 2 =
            narrowed_down key cells are (m + 1) (length cells) 1 (m + 1) up (omega arith) w.1 w.0 w.2 greater in
            ends_at cells (m + 1) key (held _ are.rising) (omega arith) down.below down.above
        | inr w ↦ ends_at cells (m + 1) key (held _ are.rising) (omega arith) up.below (λ j f h k. up.above j f (omega (arith, w.0)) k)
      ]

-- a key after the last one goes in at the end
pub behind_last : (key : Key) (cells : List (Key × Cell Value)) (are : AreCells cells) (m : ℕ) → m + 1 ≡ length cells → Less ≡ order_of key (slice_get cells m)
    → IsIndexFor key cells (length cells)
behind_last key cells are m end less =
    let none : Greater ≡ order_of key (slice_get cells (m + 1)) = elim (slice_get_cases cells (m + 1)).1 [
      | inl w ↦ absurd (let low = w.1 in omega arith)
      | inr w ↦ sym (ap (order_of key) w.1)
    ] in
    subst (IsIndexFor key cells) end (stands_between key cells are m less none)
