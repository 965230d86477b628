-- The next entry of each switch for a LID that the same end port alone holds in the held tables and in the plan, by
-- settled entries: the plan's entry once it leads on.
use Rattle.std.specs.Prelude.{◌≡◌, ℕ, ◌==◌, Bool, List, Contains, length, map, if◌then◌else◌}
use Rattle.subnet_view.specs.declared.end_port.EndPort.{EndPort}
use Rattle.subnet_view.specs.Reading.{Cells, switches}
use Rattle.held_tables.specs.declared.held.HeldLid.{HeldLid}
use Rattle.held_tables.specs.Held.{HeldPlan}
use Rattle.packet_walks.specs.declared.cause.Cause.TheVariants.{NoEntry}
use Rattle.packet_walks.specs.declared.packet_end.End.TheVariants.{Taken, Lost}
use Rattle.packet_walks.specs.declared.next_hop.NextHop.{NextHop}
use Rattle.packet_walks.specs.declared.next_hop.NextHop.TheVariants.{Ends}
use Rattle.held_tables.specs.Switches.{row_of}
use Rattle.held_tables.specs.Tables.{owners_of, entry_for}
use Rattle.packet_walks.specs.EndsBySwitch.{after, end_of, is_to}
use Rattle.packet_walks.specs.HopsByTables.{by_entry, cause_of, is_at, next_hops_of}

-- the next hop of switch `g` for `lid` under `tables`
abbrev pub step_at : Cells → HeldPlan → ℕ → ℕ → NextHop
step_at cells tables lid g =
    by_entry (owners_of tables lid) g (cause_of cells tables lid g) (row_of cells g) (entry_for tables lid g)

-- the walk from `s` along `steps` arrives at `port`
abbrev pub comes_to : EndPort → List NextHop → NextHop → Bool
comes_to port steps s = is_at port (end_of (after (length steps) steps s))

-- the plan's next hop of switch `g` if the held entry of `g` for `lid` is the plan's already; otherwise `g` drops the
-- packet
abbrev pub agreed_at : Cells → HeldPlan → HeldPlan → ℕ → ℕ → NextHop
agreed_at cells held plan lid g =
    if entry_for held lid g == entry_for plan lid g then step_at cells plan lid g else Ends (Lost g NoEntry)

-- for each usable switch, the plan's next hop if the switch's held entry for `lid` is the plan's already; any other
-- switch drops the packet
abbrev pub agreed : Cells → HeldPlan → HeldPlan → ℕ → List NextHop
agreed cells held plan lid = map (agreed_at cells held plan lid) (switches cells)

-- the plan's entry of switch `g` leads to the port of `line`, or to a switch from which each entry on the route to this
-- port is the plan's already
abbrev pub leads_on : Cells → HeldPlan → HeldPlan → HeldLid → ℕ → Bool
leads_on cells held plan line g = comes_to line.port (agreed cells held plan line.lid) (step_at cells plan line.lid g)

-- the held tables deliver a packet for the LID of `line` from switch `g` at the port of `line`
abbrev pub delivers : Cells → HeldPlan → HeldLid → ℕ → Bool
delivers cells held line g = comes_to line.port (next_hops_of cells held line.lid) (step_at cells held line.lid g)

-- the entry of switch `g` while mending: the held entry if it forwards the packet to a switch, otherwise the plan's
abbrev pub patch_entry : Cells → HeldPlan → HeldPlan → ℕ → ℕ → ℕ
patch_entry cells held plan lid g =
    if is_to (step_at cells held lid g) then entry_for held lid g else entry_for plan lid g

-- the next hop of switch `g` while mending: the held one if it leads to a switch, otherwise the plan's
abbrev pub patch_at : Cells → HeldPlan → HeldPlan → ℕ → ℕ → NextHop
patch_at cells held plan lid g =
    if is_to (step_at cells held lid g) then step_at cells held lid g else step_at cells plan lid g

-- the hop of a packet at switch `g` while mending: delivery if the held tables deliver the packet; otherwise the held
-- hop if this hop leads to a switch, and else the plan's hop
abbrev pub mending_at : Cells → HeldPlan → HeldPlan → HeldLid → ℕ → NextHop
mending_at cells held plan line g =
    if delivers cells held line g then Ends (Taken line.port) else patch_at cells held plan line.lid g

-- for each usable switch, the hop of a packet there while mending (`mending_at`)
abbrev pub mending : Cells → HeldPlan → HeldPlan → HeldLid → List NextHop
mending cells held plan line = map (mending_at cells held plan line) (switches cells)

-- while mending, a packet from switch `g` reaches a switch from which the held tables deliver, or the port of `line`
abbrev pub mends : Cells → HeldPlan → HeldPlan → HeldLid → ℕ → Bool
mends cells held plan line g = comes_to line.port (mending cells held plan line) (mending_at cells held plan line g)

-- the next entry of switch `g`: the plan's if it leads on; otherwise the held one if the held tables deliver from `g`;
-- otherwise the entry while mending if that mends; otherwise 255
abbrev pub next_entry : Cells → HeldPlan → HeldPlan → HeldLid → ℕ → ℕ
next_entry cells held plan line g =
    if leads_on cells held plan line g then entry_for plan line.lid g else
    (if delivers cells held line g then entry_for held line.lid g else
    (if mends cells held plan line g then patch_entry cells held plan line.lid g else 255))

-- `next` has the next entry of each usable switch for the LID of `line`, and the LID's owners stay the same
pub record IsNext (cells : Cells) (held plan : HeldPlan) (line : HeldLid) (next : HeldPlan) : Type 0 where
  pub owners : owners_of next line.lid ≡ owners_of held line.lid
  pub entries : (g : ℕ) → Contains (switches cells) g → entry_for next line.lid g ≡ next_entry cells held plan line g
