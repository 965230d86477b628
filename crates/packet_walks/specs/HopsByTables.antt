-- What becomes of a packet for a LID at each switch, and at the port that sends it.
use Rattle.std.specs.Prelude.{◌≡◌, ◌↔◌, Bool, false, ℕ, ◌%◌, ◌==◌, List, [], Contains, Option, None, Some, length, map, nat_lt, slice_get, slice_index_or, if◌then◌else◌}
use Rattle.std.specs.Option.{option_map_or}
use Rattle.subnet_view.specs.declared.end_port.EndPort.{EndPort}
use Rattle.subnet_view.specs.Reading.{Cells, is_usable, port_count_of, switches}
use Rattle.held_tables.specs.declared.held.HeldLid.{HeldLid}
use Rattle.held_tables.specs.Held.{HeldPlan}
use Rattle.subnet_view.specs.EndPort.{end_ports}
use Rattle.packet_walks.specs.declared.cause.Cause.{Cause}
use Rattle.packet_walks.specs.declared.cause.Cause.TheVariants.{AboveTop, NoEntry, NoPort, NoLink, Foreign}
use Rattle.packet_walks.specs.declared.packet_end.End.{End}
use Rattle.packet_walks.specs.declared.packet_end.End.TheVariants.{Taken, Lost}
use Rattle.held_tables.specs.declared.far_end.Far.{Far}
use Rattle.held_tables.specs.declared.far_end.Far.TheVariants.{Nothing, Switch, Port}
use Rattle.held_tables.specs.declared.senders.Sender.{Sender}
use Rattle.held_tables.specs.declared.audited_switch.AuditedSwitch.{AuditedSwitch}
use Rattle.packet_walks.specs.declared.next_hop.NextHop.{NextHop}
use Rattle.packet_walks.specs.declared.next_hop.NextHop.TheVariants.{To, Ends}
use Rattle.packet_walks.specs.declared.next_hop.SwitchStep.{SwitchStep}
use Rattle.held_tables.specs.Switches.{row_of, sender_of}
use Rattle.held_tables.specs.Tables.{owners_of, is_owner, is_same_end, counted, entry_for, top_of}
use Rattle.packet_walks.specs.EndsBySwitch.{IsEndOf, after, end_of}

-- the end of a packet that reaches the port `e`: the packet is delivered there if `e` is one of `owners`, the end
-- ports that hold the packet's LID, and lost otherwise
abbrev pub at_port : List EndPort → EndPort → End
at_port owners e = if is_owner owners e then Taken e else Lost e.node Foreign

-- the next hop of a packet that leaves node `g` along a wire to the given far end, for a LID that `owners` hold; if
-- there is no wire, the packet is lost for `cause`
abbrev pub over : List EndPort → ℕ → Cause → Far → NextHop
over owners g cause Nothing = Ends (Lost g cause)
over owners g cause (Switch index) = To index
over owners g cause (Port e) = Ends (at_port owners e)

-- the cause for which a switch with `ports` ports, the top `top` and the entry `entry` does not forward a packet for
-- `lid`: the first cause that applies
abbrev pub cause_by : ℕ → ℕ → ℕ → ℕ → Cause
cause_by ports top lid entry =
    if nat_lt top lid then AboveTop else
    (if entry == 255 then NoEntry else (if nat_lt ports entry then NoPort else NoLink))

-- the cause for which switch `g` of the facts does not forward a packet for `lid` under the held tables; it has no
-- meaning if `g` forwards the packet
abbrev pub cause_of : Cells → HeldPlan → ℕ → ℕ → Cause
cause_of cells held lid g = cause_by (port_count_of cells g) (top_of held g) lid (entry_for held lid g)

-- the next hop of switch `g` for a packet with the effective entry `entry`: the packet is delivered at the switch
-- itself if `entry` is 0, and otherwise leaves by the port `entry`
abbrev pub by_entry : List EndPort → ℕ → Cause → List Far → ℕ → NextHop
by_entry owners g cause row entry =
    if entry == 0 then Ends (Taken (record { node = g; port = 0 })) else over owners g cause
    (slice_index_or row entry Nothing)

-- the next hop of each usable switch, in ascending order of GUID, for packets for `lid`
abbrev pub next_hops_of : Cells → HeldPlan → ℕ → List NextHop
next_hops_of cells held lid =
    map (λ g. by_entry (owners_of held lid) g (cause_of cells held lid g) (row_of cells g) (entry_for held lid g))
    (switches cells)

-- the entry for `lid` in the block at `index` of `rows`; 255 if there is no index, block or entry
abbrev pub entry_among : List (List ℕ) → Option ℕ → ℕ → ℕ
entry_among rows index lid = option_map_or (λ k. slice_index_or (slice_index_or rows k []) (lid % 64) 255) index 255

-- the effective entry of the switch `node` for `lid`, where `rows` has the blocks that `lid` is in
abbrev pub node_entry : List (List ℕ) → ℕ → AuditedSwitch → ℕ
node_entry rows lid node = counted lid node.top (entry_among rows node.index lid)

-- the next hop of the switch `node` for packets for `lid`, given its effective entry `entry`
abbrev pub next_hop_by : List EndPort → ℕ → AuditedSwitch → ℕ → NextHop
next_hop_by owners lid node entry = by_entry owners node.guid (cause_by node.ports node.top lid entry) node.row entry

-- the next hop of the switch `node` for packets for `lid`, according to the effective entry of `node` in the blocks
-- `rows`
abbrev pub next_hop_of : List EndPort → List (List ℕ) → ℕ → AuditedSwitch → NextHop
next_hop_of owners rows lid node = next_hop_by owners lid node (node_entry rows lid node)

-- switch `g` with its effective entry for `lid` under the held tables, and its next hop
abbrev pub switch_step : Cells → HeldPlan → ℕ → ℕ → SwitchStep
switch_step cells held lid g = record {
  switch = g;
  entry = entry_for held lid g;
  hop = by_entry (owners_of held lid) g (cause_of cells held lid g) (row_of cells g) (entry_for held lid g);
}

-- the switch `node` with `entry` as its effective entry for `lid`, and its next hop
abbrev pub switch_step_by : List EndPort → ℕ → AuditedSwitch → ℕ → SwitchStep
switch_step_by owners lid node entry =
    record { switch = node.guid; entry = entry; hop = next_hop_by owners lid node entry }

-- the switch `node` with its effective entry for `lid` in the blocks `rows`, and its next hop
abbrev pub switch_step_of : List EndPort → List (List ℕ) → ℕ → AuditedSwitch → SwitchStep
switch_step_of owners rows lid node = switch_step_by owners lid node (node_entry rows lid node)

-- the first hop of a packet that `e` sends. If the node of `e` is the usable switch at the given index, the packet is
-- at this switch. If there is no index, the packet is delivered at `e` if `e` is one of `owners`, and otherwise
-- leaves along the wire of `e`
abbrev pub sent : List EndPort → EndPort → Option ℕ → Far → NextHop
sent owners e (Some index) far = To index
sent owners e None far = if is_owner owners e then Ends (Taken e) else over owners e.node NoLink far

-- the first hop of a packet that `source` sends for a LID that `owners` hold
abbrev pub first_hop : List EndPort → Sender → NextHop
first_hop owners source = sent owners source.port source.switch source.far

-- the packet that `e` sends for `lid` ends at `end`; if `end` is None, the packet loops forever
abbrev pub IsBrought : Cells → HeldPlan → ℕ → EndPort → Option End → Type 0
IsBrought cells held lid e end =
    IsEndOf (next_hops_of cells held lid) (first_hop (owners_of held lid) (sender_of cells e)) end

-- the end that a packet that `e` sends for `lid` reaches within as many steps as there are usable switches; None if
-- the packet reaches no end by then
abbrev pub end_for : Cells → HeldPlan → ℕ → EndPort → Option End
end_for cells held lid e =
    end_of (after (length (switches cells)) (next_hops_of cells held lid)
    (first_hop (owners_of held lid) (sender_of cells e)))

-- the packet that an end port sends for a LID ends at `end` exactly when `end` is the end that `end_for` gives
abbrev pub EndsAreFound : Type 0
EndsAreFound = (cells : Cells) (held : HeldPlan) (lid : ℕ) (e : EndPort) (end : Option End)
    → IsBrought cells held lid e end ↔ (end ≡ end_for cells held lid e)

-- if `g` is a usable switch, its effective entry for `lid`; otherwise None
abbrev pub entry_by : Cells → HeldPlan → ℕ → ℕ → Option ℕ
entry_by cells held g lid = if is_usable cells g then Some (entry_for held lid g) else None

-- `ends` has, for each end port, in the order of the end ports, the end of its packet for `lid`
pub record AreBrought (cells : Cells) (held : HeldPlan) (lid : ℕ) (ends : List (Option End)) : Type 0 where
  pub as_many : length ends ≡ length (end_ports cells)
  pub brought : (k : ℕ) (e : EndPort) (end : Option End) → slice_get (end_ports cells) k ≡ Some e → slice_get ends k
      ≡ Some end → IsBrought cells held lid e end

-- the packets that the end ports of the facts send for the LID of `line` are delivered at the port of `line`
abbrev pub LineArrives : Cells → HeldPlan → HeldLid → Type 0
LineArrives cells held line =
    (e : EndPort) → Contains (end_ports cells) e → IsBrought cells held line.lid e (Some (Taken line.port))

-- whether a packet with the given end is delivered at `e`; false if the packet is lost or loops forever
abbrev pub is_at : EndPort → Option End → Bool
is_at e None = false
is_at e (Some (Lost g cause)) = false
is_at e (Some (Taken x)) = is_same_end e x
