-- The next entries of the switches, from what each switch does under the held tables and under the plan.
use Rattle.std.specs.Prelude.{ℕ, ◌==◌, ◌||◌, Bool, List, map, if◌then◌else◌}
use Rattle.std.specs.List.{list_all, zip}
use Rattle.subnet_view.specs.declared.end_port.EndPort.{EndPort}
use Rattle.packet_walks.specs.declared.cause.Cause.TheVariants.{NoEntry}
use Rattle.packet_walks.specs.declared.packet_end.End.TheVariants.{Taken, Lost}
use Rattle.packet_walks.specs.declared.next_hop.NextHop.{NextHop}
use Rattle.packet_walks.specs.declared.next_hop.NextHop.TheVariants.{Ends}
use Rattle.packet_walks.specs.declared.next_hop.SwitchStep.{SwitchStep}
use Rattle.packet_walks.specs.EndsBySwitch.{end_of, is_to, onward}
use Rattle.packet_walks.specs.HopsByTables.{is_at}
use Rattle.next_tables.specs.SettledRule.{comes_to}

-- what a switch does under the held tables, and what it does under the plan
abbrev pub Both : Type 0
Both = SwitchStep × SwitchStep

-- the plan's next hop of a switch if its entries in both tables are equal; a switch with different entries drops the
-- packet
abbrev pub agreed_by : Both → NextHop
agreed_by x = if x.0.entry == x.1.entry then x.1.hop else Ends (Lost x.0.switch NoEntry)

-- for each switch, the plan's next hop if its entries in both tables are equal; a switch with different entries drops
-- the packet
abbrev pub agreed_of : List SwitchStep → List SwitchStep → List NextHop
agreed_of held plan = map agreed_by (zip held plan)

-- the next hops of the switches
abbrev pub hops_of : List SwitchStep → List NextHop
hops_of steps = map (λ x. x.hop) steps

-- the held hop of a switch if it leads to a switch, otherwise the plan's
abbrev pub patch_by : Both → NextHop
patch_by x = if is_to x.0.hop then x.0.hop else x.1.hop

-- the held entry of a switch if its hop leads to a switch, otherwise the plan's
abbrev pub patch_entry_by : Both → ℕ
patch_entry_by x = if is_to x.0.hop then x.0.entry else x.1.entry

-- the hop of a packet at a switch while mending: delivery at `port` if the held tables deliver the packet; otherwise
-- the held hop if this hop leads to a switch, and else the plan's hop
abbrev pub mending_by : EndPort → (NextHop → Bool) → Both → NextHop
mending_by port delivers x = if delivers x.0.hop then Ends (Taken port) else patch_by x

-- for each switch, the hop of a packet there while mending (`mending_by`)
abbrev pub mending_of : EndPort → (NextHop → Bool) → List SwitchStep → List SwitchStep → List NextHop
mending_of port delivers held plan = map (mending_by port delivers) (zip held plan)

-- the next entry of a switch: the plan's if it leads on, otherwise the held one if it delivers, otherwise the entry
-- while mending if that mends, otherwise 255. `leads`, `delivers` and `mends` say along which hops a walk arrives at
-- the port: along entries that are equal in both tables, under the held tables, and while mending
abbrev pub next_by : EndPort → (NextHop → Bool) → (NextHop → Bool) → (NextHop → Bool) → Both → ℕ
next_by port leads delivers mends x =
    if leads x.1.hop then x.1.entry else
    (if delivers x.0.hop then x.0.entry else
    (if mends (mending_by port delivers x) then patch_entry_by x else 255))

-- the next entry of each switch, if `leads`, `delivers` and `mends` say along which hops a walk arrives
abbrev pub chosen_by : EndPort → (NextHop → Bool) → (NextHop → Bool) → (NextHop → Bool) → List SwitchStep
    → List SwitchStep → List ℕ
chosen_by port leads delivers mends held plan = map (next_by port leads delivers mends) (zip held plan)

-- from each switch, the plan's entry leads on or the held tables deliver: nothing is to be mended
abbrev pub is_whole : (NextHop → Bool) → (NextHop → Bool) → List SwitchStep → List SwitchStep → Bool
is_whole leads delivers held plan = list_all (λ x. leads x.1.hop || delivers x.0.hop) (zip held plan)

-- the test whether a walk from a hop arrives at `port` while mending
abbrev pub mends_of : EndPort → (NextHop → Bool) → List SwitchStep → List SwitchStep → NextHop → Bool
mends_of port delivers held plan = comes_to port (mending_of port delivers held plan)

-- the next entries of all switches, from what each switch does under the held tables and under the plan
unfoldable pub next_of : EndPort → List SwitchStep → List SwitchStep → List ℕ
next_of port held plan =
    chosen_by port (comes_to port (agreed_of held plan)) (comes_to port (hops_of held))
    (mends_of port (comes_to port (hops_of held)) held plan) held plan

-- a walk that goes on from `s` arrives at `port`; `ends` has the ends of the walks from the switches
abbrev pub arrives_by : EndPort → List NextHop → NextHop → Bool
arrives_by port ends s = is_at port (end_of (onward ends s))
