-- What is taken of a list, what is found in it, and what holds of all of it.
use Rattle.std.proofs.Common.{◌≡◌, List, [], ◌∷◌, inl, inr, refl, sym, ap, ◌∙◌, subst, true, false, cond}
use Rattle.std.proofs.lemmas.List.Elements.{All-nil, All-cons}
use Rattle.std.specs.Prelude.{Contains, Option, None, Some, All}
use Rattle.std.specs.List.{filter_map, cons_option}
use Rattle.std.specs.FinMap.Entries.{find}
use Rattle.std.specs.Ordering.{eq_by_cmp}
use Rattle.fact_join.specs.declared.cell.Cell.{Cell}
use Rattle.reply_facts.specs.declared.key.Key.{Key}
use Rattle.reply_facts.specs.declared.value.Value.{Value}
use Rattle.reply_facts.specs.Key.{key_cmp}
use Rattle.reply_facts.proofs.Keys.{key_exact, equal_from_test}
use Rattle.subnet_view.specs.Reading.{Cells}
use Rattle.subnet_view.proofs.Members.{contains_here, contains_later, contains_cases, contains_none, contains_first}

-- what is taken of a list comes from an element
module _ {X Y : Type 0} (f : X → Option Y) where
  pub taken_from : (xs : List X) (y : Y) → Contains (filter_map f xs) y → (x : X) × Contains xs x × (f x ≡ Some y)
  taken_from [] y h = absurd (contains_none y h)
  taken_from (x ∷ xs) y h =
      elim (f x) as (λ o. f x ≡ o → Contains (cons_option o (filter_map f xs)) y → (z : X) × Contains (x ∷ xs) z × (f z ≡ Some y)) [
        | None ↦ λ q k. let i = taken_from xs y k in (i.0, contains_later x i.0 xs i.1, i.2)
        | Some w ↦ λ q k. (elim (contains_cases w y (filter_map f xs) k) [
          | inl e ↦ (x, contains_here x xs, q ∙ ap (λ (z : Y). Some z) e)
          | inr m ↦ let i = taken_from xs y m in (i.0, contains_later x i.0 xs i.1, i.2)
        ])
      ] refl h

  -- what is taken of an element is in what is taken of the list
  pub is_taken : (xs : List X) (x : X) (y : Y) → Contains xs x → f x ≡ Some y → Contains (filter_map f xs) y
  is_taken [] x y h e = absurd (contains_none x h)
  is_taken (z ∷ xs) x y h e =
      elim (contains_cases z x xs h) [
        | inl s ↦ subst (λ (o : Option Y). Contains (cons_option o (filter_map f xs)) y) (sym (ap f s ∙ e)) (contains_here y (filter_map f xs))
        | inr m ↦ let i = is_taken xs x y m e in
            elim (f z) as (λ o. Contains (cons_option o (filter_map f xs)) y) [
              | None ↦ i
              | Some w ↦ contains_later w y (filter_map f xs) i
            ]
      ]

-- a key that is found has its cell in the list
pub found_in : (key : Key) (cells : Cells) (c : Cell Value) → find key_cmp key cells ≡ Some c → Contains cells (key, c)
found_in key [] c e = absurd (cc)
found_in key (x ∷ cells) c e =
    elim (eq_by_cmp key_cmp key x.0) as (λ t. eq_by_cmp key_cmp key x.0 ≡ t → cond t (Some x.1) (find key_cmp key cells) ≡ Some c
    → Contains (x ∷ cells) (key, c)) [
      | true ↦ λ q k.
          let same : key ≡ x.0 = key_exact key x.0 (equal_from_test (key_cmp key x.0) q) in
          let cell : x.1 ≡ c = cc in
          contains_first cells (λ i. (sym same i, cell i))
      | false ↦ λ q k. contains_later x (key, c) cells (found_in key cells c k)
    ] refl e

-- what holds of each element holds of all
pub all_from : {X : Type 0} (P : X → Type 0) (xs : List X) → ((x : X) → Contains xs x → P x) → All P xs
all_from P [] h = All-nil P
all_from P (x ∷ xs) h = All-cons P x xs (h x (contains_here x xs)) (all_from P xs (λ y k. h y (contains_later x y xs k)))
