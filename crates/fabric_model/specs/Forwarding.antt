-- What happens to a packet for a LID at each node: it is delivered, leaves by a port, or is dropped. InfiniBand
-- Architecture Specification, Volume 1: switches, unicast forwarding by the linear forwarding table.
use Rattle.std.specs.Prelude.{◌≡◌, ℕ, ◌+◌, ◌*◌, Bool, true, false, ◌||◌, List, [], ◌∷◌, length, None, Some, ◌==◌, nat_lt, slice_get, if◌then◌else◌, ◌⊎◌}
use Rattle.std.specs.Option.{option_map_or}
use Rattle.fabric_model.specs.declared.cable.NodePort.{NodePort}
use Rattle.fabric_model.specs.declared.course.Course.{Course}
use Rattle.fabric_model.specs.declared.course.Course.TheVariants.{Delivers, LeavesBy, Drops}
use Rattle.smp_bytes.specs.NodeType.{is_switch}
use Rattle.fabric_model.specs.Fabric.{Fabric, owns, switch_count}

-- the port at which a packet is, and whether it came there by a wire
pub record Standing : Type 0 where
  pub at : NodePort
  pub by_wire : Bool

-- a packet that port `p` sends
abbrev pub sent_from : NodePort → Standing
sent_from p = record { at = p; by_wire = false }

-- a packet that arrived at port `p` by a wire
abbrev pub arrived_at : NodePort → Standing
arrived_at p = record { at = p; by_wire = true }

-- what an adapter port does with a packet at `s`. If the packet is for one of the port's LIDs (`is_own`), it is
-- delivered there. Any other packet is dropped if it arrived by a wire, and is otherwise sent out, since the port is
-- its sender
abbrev pub adapter_course : Bool → Standing → Course
adapter_course is_own s = if is_own then Delivers s.at else if s.by_wire then Drops else LeavesBy s.at

-- what the switch with the number `number` and `ports` ports does with a packet whose table entry is `entry`. The
-- switch drops the packet if `entry` is 255 or is a port that the switch does not have. It takes the packet if
-- `entry` is 0. Otherwise it sends the packet out by the port `entry`
abbrev pub entry_course : ℕ → ℕ → ℕ → Course
entry_course ports number entry =
    if entry == 255 || nat_lt ports entry then Drops
    else if entry == 0 then Delivers (record { node = number; port = 0 })
    else LeavesBy (record { node = number; port = entry })

-- what a switch does with a packet for `lid`: if `lid` is from 1 to `top`, what `entry` says; otherwise it drops the
-- packet
abbrev pub switch_course : ℕ → ℕ → ℕ → ℕ → ℕ → Course
switch_course ports number top lid entry = if lid == 0 || nat_lt top lid then Drops else entry_course ports number entry

-- what the node of `s` does with a packet for `lid` that is at `s`; the packet is dropped if the fabric has no such
-- node
abbrev pub course : Fabric → ℕ → Standing → Course
course f lid s =
    let number = s.at.node in
    option_map_or
    (λ node. if is_switch node.kind then switch_course node.ports number (f.top number) lid (f.entry number lid) else
    adapter_course (owns f s.at lid) s)
    (slice_get f.nodes number)
    Drops

-- a wire that a packet takes, from port `out` to port `into`
pub record Hop : Type 0 where
  pub out : NodePort
  pub into : NodePort

-- a packet for `lid` goes from `s` to `end` along the wires `hops`, one after the other
abbrev pub Goes : Fabric → ℕ → Standing → List Hop → Standing → Type 0
Goes f lid s [] end = s ≡ end
Goes f lid s (h ∷ hops) end =
    (course f lid s ≡ LeavesBy h.out) × (f.across h.out ≡ Some h.into) × Goes f lid (arrived_at h.into) hops end

-- a packet for `lid` that port `source` sends goes along the wires `hops`, and is delivered at port `target`
abbrev pub IsDelivered : Fabric → ℕ → NodePort → List Hop → NodePort → Type 0
IsDelivered f lid source hops target =
    (end : Standing) × Goes f lid (sent_from source) hops end × (course f lid end ≡ Delivers target)

-- a packet for `lid` that is at `s` is dropped, or leaves by a port without a cable
abbrev pub IsStuck : Fabric → ℕ → Standing → Type 0
IsStuck f lid s = (course f lid s ≡ Drops) ⊎ ((p : NodePort) × (course f lid s ≡ LeavesBy p) × (f.across p ≡ None))

-- a number of wires. A packet that takes this many wires loops forever
abbrev pub wire_bound : Fabric → ℕ
wire_bound f = 2 * switch_count f + 2

-- a packet for `lid` that port `source` sends goes along the wires `hops` to the node with the number `node`, and is
-- lost there. It is dropped, leaves by a port without a cable, or has taken `wire_bound` wires, and so loops forever
abbrev pub IsLost : Fabric → ℕ → NodePort → List Hop → ℕ → Type 0
IsLost f lid source hops node =
    (end : Standing) × Goes f lid (sent_from source) hops end × (end.at.node ≡ node)
    × (IsStuck f lid end ⊎ (length hops ≡ wire_bound f))
