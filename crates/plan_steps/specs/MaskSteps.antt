-- The steps that set multicast forwarding tables at switches. All of a subnet's groups have one multicast LID, and with it
-- one tree. InfiniBand Architecture Specification, Volume 1: subnet management, MulticastForwardingTable; multicast LIDs.
use Rattle.std.specs.Prelude.{ℕ, ◌+◌, ◌*◌, ◌/◌, ◌%◌, ◌^◌, ◌==◌, Bool, false, min, nat_lt, bit_or, List, [], fold, Option, replicate, if◌then◌else◌}
use Rattle.std.specs.List.{filter_map, flat_map, range_with_len}
use Rattle.std.specs.Option.{option_map_or}
use Rattle.smp_bytes.specs.Field.{Field, number_in, with_number}
use Rattle.smp_bytes.specs.Header.{multicast_forwarding_table}
use Rattle.attr_codec.specs.SwitchInfo.{multicast_fdb_cap}
use Rattle.subnet_view.specs.Reading.{Cells, port_count_of}
use Rattle.sweep.specs.Sweep.{Sweep, switch_image}
use Rattle.multicast_tree.specs.Tree.{TreePorts}
use Rattle.plan_steps.specs.declared.step.Step.{Step}
use Rattle.plan_steps.specs.Step.{step_at}

-- the mask of the first multicast LID, 0xC000, in a block of a multicast forwarding table
abbrev pub first_mask : Field
first_mask = record { at = 0; len = 2 }

-- the block in which the first multicast LID has the mask `mask`, and no other has a port
abbrev pub masks_data : ℕ → List ℕ
masks_data mask = with_number first_mask mask (replicate 64 0)

-- the number of positions in the multicast forwarding table of a switch: one for each 16 ports, port 0 included. There
-- are at most 16
abbrev pub position_count : Cells → ℕ → ℕ
position_count cells guid = min (port_count_of cells guid / 16) 15 + 1

-- the mask of the position `position`, with the bit of `port` if the port has this position. The least bit is that of the
-- first of its 16 ports
abbrev pub mask_with : ℕ → ℕ → ℕ → ℕ
mask_with position mask port = if port / 16 == position then bit_or mask (1 * 2 ^ (port % 16) % 2 ^ 16) else mask

-- the mask that has those of `ports` that have the position `position`
abbrev pub mask_of : List ℕ → ℕ → ℕ
mask_of ports position = fold (mask_with position) 0 ports

-- the step that sets block 0 of the position `position` at the switch `guid` to the mask of `ports`; None if the sweep did
-- not reach the switch
abbrev pub mask_step : Sweep → ℕ → List ℕ → ℕ → Option Step
mask_step sweep guid ports position =
    step_at sweep guid 0 multicast_forwarding_table (0x10000000 * position) (masks_data (mask_of ports position))

-- whether a switch has a multicast forwarding table, by the SwitchInfo that was read of it
abbrev pub has_table : Option (List ℕ) → Bool
has_table read = option_map_or (λ info. nat_lt 0 (number_in multicast_fdb_cap info)) read false

-- the steps that set block 0 of each position of a switch; none if the switch has no multicast forwarding table
abbrev pub switch_mask_steps : Cells → Sweep → List ℕ → ℕ → List Step
switch_mask_steps cells sweep ports guid =
    if has_table (switch_image sweep guid)
    then filter_map (mask_step sweep guid ports) (range_with_len 0 (position_count cells guid)) else []

-- the steps that set the masks of a tree at its switches
abbrev pub tree_steps : Cells → Sweep → List TreePorts → List Step
tree_steps cells sweep tree = flat_map (λ s. switch_mask_steps cells sweep s.ports s.guid) tree

-- the steps that take all ports out of the masks at the switches of a tree
abbrev pub clear_steps : Cells → Sweep → List TreePorts → List Step
clear_steps cells sweep tree = flat_map (λ s. switch_mask_steps cells sweep [] s.guid) tree
