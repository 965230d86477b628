-- The next entries of the switches by an order, from what each switch does under the held tables and under the
-- goal's.
use Rattle.std.specs.Prelude.{ℕ, ◌==◌, ◌&&◌, ◌||◌, not, Bool, true, false, List, length, map, slice_index_or, if◌then◌else◌, Some}
use Rattle.std.specs.List.{enumerate_from, list_any, range_with_len, zip}
use Rattle.subnet_view.specs.declared.end_port.EndPort.{EndPort}
use Rattle.packet_walks.specs.declared.next_hop.NextHop.{NextHop}
use Rattle.packet_walks.specs.declared.next_hop.NextHop.TheVariants.{To, Ends}
use Rattle.packet_walks.specs.declared.next_hop.SwitchStep.{SwitchStep}
use Rattle.packet_walks.specs.HopsByTables.{is_at}
use Rattle.next_tables.specs.SettledRule.{comes_to}
use Rattle.next_tables.specs.OrderRule.{comes_down, goes_up}
use Rattle.next_tables.specs.SwitchPositions.{is_down, is_up, position_at}
use Rattle.next_tables.specs.SettledEntries.{Both, hops_of}

-- the flag at index `i`, false past the end
abbrev pub flag : List Bool → ℕ → Bool
flag flags i = slice_index_or flags i false

-- whether the switch has different entries under the held tables and under the goal
abbrev pub is_differing : SwitchStep → SwitchStep → Bool
is_differing held goal = not (held.entry == goal.entry)

-- for each switch, whether the held tables deliver the packet from there at `port`
abbrev pub delivered_of : EndPort → List SwitchStep → List Bool
delivered_of port held = map (λ x. comes_to port (hops_of held) x.hop) held

-- under the held tables the switch sends the packet up, according to an entry that is not the goal's
abbrev pub goes_up_by : List ℕ → ℕ × Both → Bool
goes_up_by positions x = goes_up (position_at positions) x.0 x.1.0.hop && is_differing x.1.0 x.1.1

-- for each switch, whether it sends the packet up according to a held entry that is not the goal's
abbrev pub going_up_of : List ℕ → List SwitchStep → List SwitchStep → List Bool
going_up_of positions held goal = map (goes_up_by positions) (enumerate_from 0 (zip held goal))

-- the packet comes down from the switch at `index` to the switch at `i`, according to a held entry that is not the
-- goal's
abbrev pub enters : List ℕ → ℕ → SwitchStep → SwitchStep → ℕ → Bool
enters positions index held goal i =
    comes_down (position_at positions) index i held.hop && is_differing held goal

-- the packet comes down from a switch, given by its index and its steps, to the switch at `i`, according to a held
-- entry that is not the goal's
abbrev pub enters_from : List ℕ → ℕ → ℕ × Both → Bool
enters_from positions i x = enters positions x.0 x.1.0 x.1.1 i

-- the packet comes down to the switch at `i` from some switch, according to a held entry that is not the goal's
abbrev pub is_entered : List ℕ → List SwitchStep → List SwitchStep → ℕ → Bool
is_entered positions held goal i = list_any (enters_from positions i) (enumerate_from 0 (zip held goal))

-- for each switch, whether the packet comes down to it according to a held entry that is not the goal's
abbrev pub entered_of : List ℕ → List SwitchStep → List SwitchStep → List Bool
entered_of positions held goal = map (is_entered positions held goal) (range_with_len 0 (length held))

-- the hop of the switch at index `i` makes no turn from down to up with held entries that are not the goal's; true if
-- the hop is an end
abbrev pub turns_well_by : List ℕ → List Bool → List Bool → ℕ → NextHop → Bool
turns_well_by positions going_up entered i (To j) =
    (not (is_up (position_at positions) i j) || not (flag entered i))
    && (not (is_down (position_at positions) i j) || not (flag going_up j))
turns_well_by positions going_up entered i (Ends e) = true

-- the hop ends at `port`, or leads to a switch from which the held tables deliver the packet
abbrev pub leads_in : EndPort → List Bool → NextHop → Bool
leads_in port delivered (To j) = flag delivered j
leads_in port delivered (Ends e) = is_at port (Some e)

-- the switch at index `i` may take the goal's entry, with which its hop is `hop`: the hop turns well and, if the held
-- tables deliver from this switch, ends at the port or leads to a switch from which they deliver
abbrev pub may_change_by : List ℕ → EndPort → List Bool → List Bool → List Bool → ℕ → NextHop → Bool
may_change_by positions port delivered going_up entered i hop =
    turns_well_by positions going_up entered i hop && (not (flag delivered i) || leads_in port delivered hop)

-- the step that a switch tries: the goal's if it may take that one, otherwise the held one
abbrev pub tried_by : List ℕ → EndPort → List Bool → List Bool → List Bool → ℕ × Both → SwitchStep
tried_by positions port delivered going_up entered x =
    if may_change_by positions port delivered going_up entered x.0 x.1.1.hop then x.1.1 else x.1.0

-- the step that each switch tries: the goal's if it may take that one, otherwise the held one
abbrev pub tried_of : List ℕ → EndPort → List Bool → List Bool → List Bool → List SwitchStep → List SwitchStep
    → List SwitchStep
tried_of positions port delivered going_up entered held goal =
    map (tried_by positions port delivered going_up entered) (enumerate_from 0 (zip held goal))

-- the entry of a tried step if `comes` says that the walk from its switch arrives, otherwise 255
abbrev pub entry_by : (NextHop → Bool) → ℕ × SwitchStep → ℕ
entry_by comes x = if comes (To x.0) then x.1.entry else 255

-- for each switch, the entry of its tried step if the walk from there arrives at the port, otherwise 255
abbrev pub entries_by : EndPort → List SwitchStep → List ℕ
entries_by port tried = map (entry_by (comes_to port (hops_of tried))) (enumerate_from 0 tried)

-- the next entries of all switches by the order that `positions` give, from what each switch does under the held
-- tables and under the goal's
unfoldable pub ordered_of : List ℕ → EndPort → List SwitchStep → List SwitchStep → List ℕ
ordered_of positions port held goal =
    entries_by port
    (tried_of positions port (delivered_of port held) (going_up_of positions held goal)
    (entered_of positions held goal) held goal)
