-- Orders of the usable switches: the position of each, the turns that an order allows, and tables that are right by it.
use Rattle.std.specs.Prelude.{◌≡◌, ◌<◌, ◌&&◌, ℕ, Bool, false, not, List, Some, length, nat_lt, slice_get, slice_index_or}
use Rattle.subnet_view.specs.Reading.{Cells, switches}
use Rattle.held_tables.specs.Held.{HeldPlan}
use Rattle.held_tables.specs.declared.far_end.Far.TheVariants.{Nothing, Switch}
use Rattle.packet_walks.specs.declared.next_hop.NextHop.TheVariants.{To}
use Rattle.held_tables.specs.Switches.{row_of}
use Rattle.next_tables.specs.SettledRule.{step_at}

-- `q` gives each index of a usable switch a position below the number of these switches
abbrev pub IsOrder : Cells → (ℕ → ℕ) → Type 0
IsOrder cells q = (i : ℕ) → i < length (switches cells) → q i < length (switches cells)

-- the position of the switch at index `i`; 0 past the end
abbrev pub position_at : List ℕ → ℕ → ℕ
position_at positions i = slice_index_or positions i 0

-- the GUID of the usable switch at index `i`, 0 past the end
abbrev pub switch_at : Cells → ℕ → ℕ
switch_at cells i = slice_index_or (switches cells) i 0

-- a wire leads from the switch at index `i` to the switch at index `j`
abbrev pub IsWired : Cells → ℕ → ℕ → Type 0
IsWired cells i j = (p : ℕ) × (slice_index_or (row_of cells (switch_at cells i)) p Nothing ≡ Switch j)

-- two different switches that a wire joins have different positions
abbrev pub AreApart : Cells → (ℕ → ℕ) → Type 0
AreApart cells q =
    (i j : ℕ) → i < length (switches cells) → j < length (switches cells) → IsWired cells i j → q i ≡ q j → i ≡ j

-- the channel from the switch at index `i` to the one at index `j` leads down: `j` is no earlier in the order than `i`
abbrev pub is_down : (ℕ → ℕ) → ℕ → ℕ → Bool
is_down q i j = not (nat_lt (q j) (q i))

-- the channel from the switch at index `i` to the one at index `j` leads up: `j` is no later in the order than `i`
abbrev pub is_up : (ℕ → ℕ) → ℕ → ℕ → Bool
is_up q i j = not (nat_lt (q i) (q j))

-- the turn from the switch at index `i` via `j` to `k` is bad: it goes down and then up
abbrev pub is_bad : (ℕ → ℕ) → ℕ → ℕ → ℕ → Bool
is_bad q i j k = is_down q i j && is_up q j k

-- the switch at index `i` forwards packets for `lid` under `tables` to the switch at index `j`
pub record Leads (cells : Cells) (tables : HeldPlan) (lid i j : ℕ) : Type 0 where
  pub switch : ℕ
  pub is_there : slice_get (switches cells) i ≡ Some switch
  pub goes : step_at cells tables lid switch ≡ To j

-- no packet for `lid` that reaches a switch under `before` and leaves this switch under `now` goes down and then up
-- in the order `q`
abbrev pub TurnsWell : Cells → (ℕ → ℕ) → HeldPlan → HeldPlan → ℕ → Type 0
TurnsWell cells q before now lid =
    (i j k : ℕ) → Leads cells before lid i j → Leads cells now lid j k → is_bad q i j k ≡ false

-- `tables` are right by the order `q` for `lid`: under these tables, no packet for `lid` goes down and then up
abbrev pub AreRight : Cells → (ℕ → ℕ) → HeldPlan → ℕ → Type 0
AreRight cells q tables lid = TurnsWell cells q tables tables lid
