-- Which switch may be the last of the switches left, by lists of turns.
use Rattle.std.specs.Prelude.{◌≡◌, ◌<◌, ◌+◌, ◌&&◌, ℕ, Bool, true, false, not, List, [], Option, None, Some, slice_get, slice_index_or}
use Rattle.std.specs.List.{list_any}
use Rattle.held_order.specs.declared.turns.SwitchTurn.{SwitchTurn}
use Rattle.held_order.specs.ToldOrder.{is_left}

-- one of `turns` leads from a switch that is left to one that is left
abbrev pub turns_in : List Bool → List SwitchTurn → Bool
turns_in left turns = list_any (λ turn. is_left left turn.from && is_left left turn.to) turns

-- switch `j` is left, and none of its turns leads from a switch that is left to one that is left
abbrev pub may_be_last : List (List SwitchTurn) → List Bool → ℕ → Bool
may_be_last turns left j = is_left left j && not (turns_in left (slice_index_or turns j []))

-- no switch at `index` or later in `preferred` may be the last of those left
abbrev pub NoneFromBy : List (List SwitchTurn) → List ℕ → List Bool → ℕ → Type 0
NoneFromBy turns preferred left index =
    (k y : ℕ) → index < k + 1 → slice_get preferred k ≡ Some y → may_be_last turns left y ≡ false

-- switch `x` of `preferred` may be the last of those left, and no switch after it there may be
pub record IsLastBy (turns : List (List SwitchTurn)) (preferred : List ℕ) (left : List Bool) (x : ℕ) : Type 0 where
  pub may_be : may_be_last turns left x ≡ true
  pub index : ℕ
  pub stands : slice_get preferred index ≡ Some x
  pub none_behind : NoneFromBy turns preferred left (index + 1)

-- the switch is the one nearest to the end of `preferred` that may be the last of those left; for None, no switch of
-- `preferred` may be
abbrev pub IsNextBy : List (List SwitchTurn) → List ℕ → List Bool → Option ℕ → Type 0
IsNextBy turns preferred left None = NoneFromBy turns preferred left 0
IsNextBy turns preferred left (Some x) = IsLastBy turns preferred left x
