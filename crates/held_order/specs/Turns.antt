-- The turns that packets make at switches under tables.
use Rattle.std.specs.Prelude.{◌≡◌, ◌↔◌, ◌⊎◌, ◌≤◌, ◌/◌, ℕ, List, [], Contains, Vec, length, map, slice_index_or}
use Rattle.std.specs.declared.alloc.Global.{Global}
use Rattle.subnet_view.specs.Reading.{Cells, switches}
use Rattle.held_tables.specs.Held.{HeldPlan}
use Rattle.held_tables.specs.declared.far_end.Far.TheVariants.{Switch}
use Rattle.held_tables.specs.Switches.{far_by}
use Rattle.next_tables.specs.SwitchPositions.{Leads}
use Rattle.held_order.specs.declared.turns.SwitchTurn.{SwitchTurn}

-- under `tables`, packets for some LID come from switch `i` to switch `j` and leave `j` for switch `k`, which may be
-- `i`
pub record IsTurn (cells : Cells) (tables : HeldPlan) (i j k : ℕ) : Type 0 where
  pub lid : ℕ
  pub is_lid : 1 ≤ lid
  pub comes : Leads cells tables lid i j
  pub leaves : Leads cells tables lid j k

-- the items of each of the given vectors of turns
abbrev pub lists_of : List (Vec SwitchTurn Global) → List (List SwitchTurn)
lists_of = map (λ row. row.items)

-- the turn from `i` via `j` to `k` is recorded in `turns`
abbrev pub IsNoted : List (List SwitchTurn) → ℕ → ℕ → ℕ → Type 0
IsNoted turns i j k = Contains (slice_index_or turns j []) (record { from = i; to = k })

-- `turns` has exactly the turns that packets make at each usable switch under `tables`
pub record AreTurns (cells : Cells) (tables : HeldPlan) (turns : List (List SwitchTurn)) : Type 0 where
  pub as_many : length turns ≡ length (switches cells)
  pub each : (i j k : ℕ) → IsNoted turns i j k ↔ IsTurn cells tables i j k

-- `i` is the switch of `channel`, `j` is the switch of `next`, and `k` is the switch to which `next` leads
pub record IsOver (cells : Cells) (channel next i j k : ℕ) : Type 0 where
  pub from : i ≡ channel / 256
  pub at : j ≡ next / 256
  pub to : far_by cells next ≡ Switch k

-- `new` has the turns of `old` and, if `next` leads to a switch, the turn from `channel` into `next`
pub record IsWithTurn (cells : Cells) (channel next : ℕ) (old new : List (List SwitchTurn)) : Type 0 where
  pub as_many : length new ≡ length old
  pub each : (i j k : ℕ) → IsNoted new i j k ↔ (IsNoted old i j k ⊎ IsOver cells channel next i j k)

-- `new` has the turns of `old` and the turns from `channel` into each channel of `following` that leads to a switch
pub record IsWithTurns (cells : Cells) (channel : ℕ) (following : List ℕ) (old new : List (List SwitchTurn)) : Type 0 where
  pub as_many : length new ≡ length old
  pub each : (i j k : ℕ) → IsNoted new i j k
      ↔ (IsNoted old i j k ⊎ ((next : ℕ) × Contains following next × IsOver cells channel next i j k))
