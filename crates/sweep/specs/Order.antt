-- Lists in ascending order of GUID and port, and the index at which an item is or would be inserted.
use Rattle.std.specs.Prelude.{◌≡◌, ℕ, Bool, true, false, ◌&&◌, ◌||◌, List, [], ◌∷◌, find, nat_lt, slice_get, ◌==◌, if◌then◌else◌, Option}
use Rattle.std.specs.Option.{option_map_or}
use Rattle.request_table.specs.Order.{AreOrdered, IsIndex}

-- whether there is an item at `index`, and it passes the test
abbrev pub passes_at : {T : Type 0} → (T → Bool) → List T → ℕ → Bool
passes_at test items index = option_map_or test (slice_get items index) false

-- by GUID and port -----------------------------------------------------------------------------

-- whether `a` is before `b`: its GUID is less, or equal and its port is less
abbrev pub is_before : ℕ × ℕ → ℕ × ℕ → Bool
is_before a b = nat_lt a.0 b.0 || (a.0 == b.0 && nat_lt a.1 b.1)

-- the items are in ascending order of GUID and port, without repetitions
abbrev pub AreInOrder : {T : Type 0} → (T → ℕ × ℕ) → List T → Type 0
AreInOrder key items = AreOrdered (λ a b. is_before (key a) (key b) ≡ true) items

-- the items, which must be in ascending order of GUID and port, with `x` inserted in this order; unchanged if there
-- is an item with the GUID and port of `x` already
abbrev pub placed : {T : Type 0} → (T → ℕ × ℕ) → T → List T → List T
placed key x [] = x ∷ []
placed key x (y ∷ ys) =
    if is_before (key y) (key x) then y ∷ placed key x ys
    else if is_before (key x) (key y) then x ∷ (y ∷ ys)
    else y ∷ ys

-- whether the item `x` has this GUID and port
abbrev pub has_key : {T : Type 0} → (T → ℕ × ℕ) → ℕ → ℕ → T → Bool
has_key key guid port x = (key x).0 == guid && (key x).1 == port

-- the item with this GUID and port; None if no item has them
abbrev pub found_at : {T : Type 0} → (T → ℕ × ℕ) → ℕ → ℕ → List T → Option T
found_at key guid port items = find (has_key key guid port) items

-- `index` is the index of the item with the GUID and port `at` or, if there is no such item, the index at which it
-- would be inserted
abbrev pub IsIndexFor : {T : Type 0} → (T → ℕ × ℕ) → ℕ × ℕ → List T → ℕ → Type 0
IsIndexFor key at items index = IsIndex (λ x. is_before (key x) at) items index
