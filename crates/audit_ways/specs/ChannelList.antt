-- The channels of a subnet, each with its load.
use Rattle.std.specs.Prelude.{ℕ, List, map, slice_index}
use Rattle.subnet_view.specs.Reading.{Cells}
use Rattle.held_tables.specs.Held.{HeldPlan}
use Rattle.audit_ways.specs.declared.channel_list.LoadedChannel.{LoadedChannel}
use Rattle.audit_ways.specs.Ways.{channels_of, load_of, ways_of}

-- `channel` with its load in `loads`
abbrev pub loaded_channel : List ℕ → ℕ → LoadedChannel
loaded_channel loads channel = record { channel = channel; load = slice_index loads channel }

-- `channel` with its load: the number of times that the routes of all delivered packets from adapter ports to others
-- take it
abbrev pub channel_with_load : Cells → HeldPlan → ℕ → LoadedChannel
channel_with_load cells held channel = record { channel = channel; load = load_of (ways_of cells held) channel }

-- the channels of the subnet, each with its load
abbrev pub loaded_channels : Cells → HeldPlan → List LoadedChannel
loaded_channels cells held = map (channel_with_load cells held) (channels_of cells)
