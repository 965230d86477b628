-- Each switch's next entry for a LID, by an order of the switches, towards the goal's entry.
use Rattle.std.specs.Prelude.{◌≡◌, ◌⊎◌, ◌==◌, ◌&&◌, ◌||◌, ◌+◌, ◌-◌, ◌*◌, ◌/◌, ℕ, Bool, true, false, not, List, Some, length, map, nat_lt, slice_get, if◌then◌else◌}
use Rattle.std.specs.List.{list_all, range_with_len}
use Rattle.subnet_view.specs.Reading.{Cells, switches}
use Rattle.held_tables.specs.declared.held.HeldLid.{HeldLid}
use Rattle.held_tables.specs.Held.{HeldPlan}
use Rattle.held_tables.specs.declared.far_end.Far.{Far}
use Rattle.held_tables.specs.declared.far_end.Far.TheVariants.{Nothing, Switch, Port}
use Rattle.packet_walks.specs.declared.next_hop.NextHop.{NextHop}
use Rattle.packet_walks.specs.declared.next_hop.NextHop.TheVariants.{To, Ends}
use Rattle.held_tables.specs.Switches.{far_by}
use Rattle.held_tables.specs.Tables.{owners_of, entry_for}
use Rattle.packet_walks.specs.HopsByTables.{is_at}
use Rattle.next_tables.specs.SettledRule.{step_at, comes_to, delivers}
use Rattle.next_tables.specs.SwitchPositions.{is_down, is_up, switch_at}

-- the effective entries of switch `g` for `lid` are equal in `held` and in `goal`
abbrev pub is_same : Cells → HeldPlan → HeldPlan → ℕ → ℕ → Bool
is_same cells held goal lid g = entry_for held lid g == entry_for goal lid g

-- the hop of the switch at index `x` leads down to the switch at index `i`
abbrev pub comes_down : (ℕ → ℕ) → ℕ → ℕ → NextHop → Bool
comes_down q x i (To j) = (j == i) && is_down q x i
comes_down q x i (Ends e) = false

-- each switch whose held entry for `lid` leads down to the switch at index `i` has the goal's entry already
abbrev pub none_comes_down : Cells → (ℕ → ℕ) → HeldPlan → HeldPlan → ℕ → ℕ → Bool
none_comes_down cells q held goal lid i =
    list_all (λ x. not (comes_down q x i (step_at cells held lid (switch_at cells x)))
    || is_same cells held goal lid (switch_at cells x)) (range_with_len 0 (length (switches cells)))

-- the hop of the switch at index `j` leads up to a switch; false if the hop is an end
abbrev pub goes_up : (ℕ → ℕ) → ℕ → NextHop → Bool
goes_up q j (To k) = is_up q j k
goes_up q j (Ends e) = false

-- the held entry for `lid` of the switch at index `j` does not lead up, or is the goal's already
abbrev pub none_goes_up : Cells → (ℕ → ℕ) → HeldPlan → HeldPlan → ℕ → ℕ → Bool
none_goes_up cells q held goal lid j =
    not (goes_up q j (step_at cells held lid (switch_at cells j))) || is_same cells held goal lid (switch_at cells j)

-- the goal's next hop of the switch at index `i` makes no bad turn with held entries. If the hop leads up, no held
-- entry that is not the goal's leads down to this switch. If it leads down, the next switch has no held entry that
-- leads up and is not the goal's. A hop that is an end makes no turn
abbrev pub turns_well : Cells → (ℕ → ℕ) → HeldPlan → HeldPlan → ℕ → ℕ → NextHop → Bool
turns_well cells q held goal lid i (To j) =
    (not (is_up q i j) || none_comes_down cells q held goal lid i)
    && (not (is_down q i j) || none_goes_up cells q held goal lid j)
turns_well cells q held goal lid i (Ends e) = true

-- the hop ends at the port of `line`, or leads to a switch from which the held tables deliver
abbrev pub leads_in : Cells → HeldPlan → HeldLid → NextHop → Bool
leads_in cells held line (To j) = delivers cells held line (switch_at cells j)
leads_in cells held line (Ends e) = is_at line.port (Some e)

-- the switch `g` at index `i` may take the goal's entry: the goal's hop turns well with held entries and, if the held
-- tables deliver from `g`, leads to the end port or to a switch from which they deliver
abbrev pub may_change : Cells → (ℕ → ℕ) → HeldPlan → HeldPlan → HeldLid → ℕ → ℕ → Bool
may_change cells q held goal line i g =
    turns_well cells q held goal line.lid i (step_at cells goal line.lid g)
    && (not (delivers cells held line g) || leads_in cells held line (step_at cells goal line.lid g))

-- the entry that the switch `g` at index `i` tries: the goal's if it may take that one, otherwise the held one
abbrev pub tried_entry : Cells → (ℕ → ℕ) → HeldPlan → HeldPlan → HeldLid → ℕ → ℕ → ℕ
tried_entry cells q held goal line i g =
    if may_change cells q held goal line i g then entry_for goal line.lid g else entry_for held line.lid g

-- the next hop of the switch at index `i` by the entry that it tries
abbrev pub tried_at : Cells → (ℕ → ℕ) → HeldPlan → HeldPlan → HeldLid → ℕ → NextHop
tried_at cells q held goal line i =
    if may_change cells q held goal line i (switch_at cells i) then step_at cells goal line.lid (switch_at cells i) else
    step_at cells held line.lid (switch_at cells i)

-- the next hop of each usable switch by the entry that it tries
abbrev pub tried : Cells → (ℕ → ℕ) → HeldPlan → HeldPlan → HeldLid → List NextHop
tried cells q held goal line = map (tried_at cells q held goal line) (range_with_len 0 (length (switches cells)))

-- the next entry of the switch `g` at index `i` by the order: the tried entry if the packet arrives from there along
-- the tried entries, otherwise 255
abbrev pub next_by_order : Cells → (ℕ → ℕ) → HeldPlan → HeldPlan → HeldLid → ℕ → ℕ → ℕ
next_by_order cells q held goal line i g =
    if comes_to line.port (tried cells q held goal line) (To i) then tried_entry cells q held goal line i g else 255

-- `next` has the next entries by the order `q` for the LID of `line`, and the LID's owners stay the same
pub record IsNextByOrder (cells : Cells) (q : ℕ → ℕ) (held goal : HeldPlan) (line : HeldLid) (next : HeldPlan) : Type 0
  where
    pub owners : owners_of next line.lid ≡ owners_of held line.lid
    pub entries : (i g : ℕ) → slice_get (switches cells) i ≡ Some g
        → entry_for next line.lid g ≡ next_by_order cells q held goal line i g

-- the LID's owners stay the same, and each switch has its tried entry for the LID in `next`. If the packet does not
-- arrive from a switch along the tried entries, the switch may have 255 instead
pub record IsTriedByOrder (cells : Cells) (q : ℕ → ℕ) (held goal : HeldPlan) (line : HeldLid) (next : HeldPlan) : Type 0
  where
    pub owners : owners_of next line.lid ≡ owners_of held line.lid
    pub entries : (i g : ℕ) → slice_get (switches cells) i ≡ Some g
        → (entry_for next line.lid g ≡ tried_entry cells q held goal line i g)
        ⊎ ((comes_to line.port (tried cells q held goal line) (To i) ≡ false) × (entry_for next line.lid g ≡ 255))

-- each entry of `next` for `lid` is the held entry, or 255, or the goal's entry with a hop that makes no bad turn
-- with held entries
abbrev pub IsChoice : Cells → (ℕ → ℕ) → HeldPlan → HeldPlan → ℕ → HeldPlan → Type 0
IsChoice cells q held goal lid next =
    (i g : ℕ) → slice_get (switches cells) i ≡ Some g
    → (entry_for next lid g ≡ entry_for held lid g)
    ⊎ ((entry_for next lid g ≡ 255)
    ⊎ ((entry_for next lid g ≡ entry_for goal lid g)
    × (turns_well cells q held goal lid i (step_at cells goal lid g) ≡ true)))

-- the number of a channel from position `a` to position `b`, among `n` positions: channels up have lesser numbers than
-- channels down
abbrev pub channel_number : ℕ → ℕ → ℕ → ℕ
channel_number n a b = if nat_lt b a then n - b else n + 1 + b

-- the number, by the positions `q`, of a channel from the switch at index `i` to the given far end; 0 if the far end
-- is not a switch
abbrev pub number_over : ℕ → (ℕ → ℕ) → ℕ → Far → ℕ
number_over n q i Nothing = 0
number_over n q i (Switch j) = channel_number n (q i) (q j)
number_over n q i (Port e) = 0

-- the numbers of the channels of all ports of the usable switches, by the positions `q`
abbrev pub numbers_by : Cells → (ℕ → ℕ) → List ℕ
numbers_by cells q =
    map (λ c. number_over (length (switches cells)) q (c / 256) (far_by cells c))
    (range_with_len 0 (256 * length (switches cells)))
