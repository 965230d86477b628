-- The order of the switches that tables imply by themselves. Switches are taken one by one, the last of the order
-- first.
use Rattle.std.specs.Prelude.{◌≡◌, ◌<◌, ◌+◌, ℕ, ◌==◌, Bool, true, false, List, [], ◌∷◌, Option, None, Some, length, replicate, slice_get, slice_index_or, slice_set, if◌then◌else◌}
use Rattle.subnet_view.specs.Reading.{Cells, switches}
use Rattle.held_tables.specs.Held.{HeldPlan}
use Rattle.held_order.specs.Turns.{IsTurn}

-- the switch at index `i` is left; false past the end
abbrev pub is_left : List Bool → ℕ → Bool
is_left left i = slice_index_or left i false

-- switch `j` may be the last of the switches left: under `tables`, no packet comes to `j` from a switch that is left
-- and leaves `j` for a switch that is left
abbrev pub MayBeLast : Cells → HeldPlan → List Bool → ℕ → Type 0
MayBeLast cells tables left j =
    (i k : ℕ) → is_left left i ≡ true → is_left left k ≡ true → IsTurn cells tables i j k → ⊥

-- no switch that is left and is at `index` or later in `preferred` may be the last of those left
abbrev pub NoneFrom : Cells → HeldPlan → List ℕ → List Bool → ℕ → Type 0
NoneFrom cells tables preferred left index =
    (k y : ℕ) → index < k + 1 → slice_get preferred k ≡ Some y → is_left left y ≡ true
    → MayBeLast cells tables left y → ⊥

-- switch `x` is left and may be the last of those left; no switch after it in `preferred` both is left and may be the
-- last
pub record IsLast (cells : Cells) (tables : HeldPlan) (preferred : List ℕ) (left : List Bool) (x : ℕ) : Type 0 where
  pub is_left : is_left left x ≡ true
  pub may_be : MayBeLast cells tables left x
  pub index : ℕ
  pub stands : slice_get preferred index ≡ Some x
  pub none_behind : NoneFrom cells tables preferred left (index + 1)

-- switches are taken in the order of the list, each as the last of those left then; `end` has the switches that are
-- left at the end
abbrev pub AreTaken : Cells → HeldPlan → List ℕ → List Bool → List ℕ → List Bool → Type 0
AreTaken cells tables preferred left [] end = left ≡ end
AreTaken cells tables preferred left (x ∷ taken) end =
    IsLast cells tables preferred left x × AreTaken cells tables preferred (slice_set left x false) taken end

-- all usable switches are left
abbrev pub all_left : Cells → List Bool
all_left cells = replicate (length (switches cells)) true

-- all switches are taken in the given order, the last one first; for None, at some point some switches are left, and
-- none of `preferred` may be the last of them
abbrev pub IsImpliedOrder : Cells → HeldPlan → List ℕ → Option (List ℕ) → Type 0
IsImpliedOrder cells tables preferred None =
    (taken : List ℕ) × (end : List Bool) × AreTaken cells tables preferred (all_left cells) taken end
    × NoneFrom cells tables preferred end 0 × ((i : ℕ) × (is_left end i ≡ true))
IsImpliedOrder cells tables preferred (Some taken) =
    (end : List Bool) × AreTaken cells tables preferred (all_left cells) taken end
    × ((i : ℕ) → is_left end i ≡ false)

-- if switch `s` is taken, its position: the number of switches that are taken after it; otherwise 0
abbrev pub position_in : List ℕ → ℕ → ℕ
position_in [] s = 0
position_in (x ∷ taken) s = if x == s then length taken else position_in taken s
