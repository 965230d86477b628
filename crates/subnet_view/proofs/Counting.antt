-- How many of a list's items have a value, counted down from all.
use Rattle.std.proofs.Common.{◌≡◌, ◌+◌, ◌-◌, ◌≤◌, ℕ, suc, false, List, [], ◌∷◌, refl, ap, arith, length}
use Rattle.std.specs.Prelude.{Option, None, Some, is_some}
use Rattle.std.specs.List.{cons_option, filter_map}
use Rattle.std.proofs.lemmas.Bool.{cond_both}
use Rattle.subnet_view.specs.declared.end_port.EndPort.{EndPort}
use Rattle.subnet_view.specs.EndPort.{comes_before, in_order, put_in_order}

pub is_None : {Y : Type 0} (o : Option Y) → is_some o ≡ false → o ≡ None
is_None None e = refl
is_None (Some y) e = absurd (cc)

module _ {X Y : Type 0} (f : X → Option Y) where
  few : (xs : List X) → length (filter_map f xs) ≤ length xs
  few [] = omega arith
  few (x ∷ xs) = one_more (f x) (few xs)
    where
      one_more : (o : Option Y) → length (filter_map f xs) ≤ length xs → length (cons_option o (filter_map f xs)) ≤ suc (length xs)
      one_more None h = omega (arith, h)
      one_more (Some y) h = omega (arith, h)

  abbrev pub CountedTo : ℕ → List X → ℕ → Type 0
  CountedTo count rest all = count + length (filter_map f rest) ≡ length rest + all

  without : (x : X) (rest : List X) → f x ≡ None → length (filter_map f (x ∷ rest)) ≡ length (filter_map f rest)
  without x rest none = ap (λ o. length (cons_option o (filter_map f rest))) none

  -- an item without a value is counted so far
  pub one_counted : (x : X) (rest : List X) (count all : ℕ) → f x ≡ None → CountedTo count (x ∷ rest) all → 1 ≤ count
  one_counted x rest count all none is = omega (arith, without x rest none, is, few rest)

  pub one_fewer : (x : X) (rest : List X) (count all : ℕ) → f x ≡ None → CountedTo count (x ∷ rest) all → CountedTo (count - 1) rest all
  one_fewer x rest count all none is = omega (arith, without x rest none, is, few rest)

length_put : (e : ℕ × EndPort) (xs : List (ℕ × EndPort)) → length (put_in_order e xs) ≡ suc (length xs)
length_put e [] = refl
length_put e (x ∷ xs) =
    cond_both (comes_before e x) (e ∷ x ∷ xs) (x ∷ put_in_order e xs) (λ ys. length ys ≡ suc (suc (length xs)))
    (λ h. refl) (λ h. omega (arith, length_put e xs))

-- an order has as many
pub length_in_order : (xs : List (ℕ × EndPort)) → length (in_order xs) ≡ length xs
length_in_order [] = refl
length_in_order (x ∷ xs) = omega (arith, length_put x (in_order xs), length_in_order xs)
