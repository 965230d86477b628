-- The line of a credit loop.
use Rattle.std.specs.Prelude.{ℕ, ◌/◌, ◌%◌, List, [], ◌∷◌, ◌++◌, codes, decimal, slice_index_or}
use Rattle.std.specs.List.{flat_map}
use Rattle.smp_bytes.specs.Text.{port_text}
use Rattle.subnet_view.specs.Reading.{Cells, switches}
use Rattle.audit_channels.specs.declared.cycle_text.ChannelKind.{ChannelKind}
use Rattle.audit_channels.specs.declared.cycle_text.ChannelKind.TheVariants.{OnOneLane, ByLane}

-- a space, and the switch and the outgoing port of a channel that has the number `channel` on one lane
abbrev pub exit_text : Cells → ℕ → List ℕ
exit_text cells channel = codes " " ++ port_text (slice_index_or (switches cells) (channel / 256) 0) (channel % 256)

-- a space, the switch and the outgoing port of `channel` and, by lane, its lane
abbrev pub channel_text : Cells → ChannelKind → ℕ → List ℕ
channel_text cells OnOneLane channel = exit_text cells channel
channel_text cells ByLane channel = exit_text cells (channel / 16) ++ codes " vl " ++ decimal (channel % 16)

-- whether channels are on one lane or by lane, in words
abbrev pub words_of : ChannelKind → List ℕ
words_of OnOneLane = codes " on one lane"
words_of ByLane = codes " by lane"

-- the channels of a credit loop; `none` if the list is empty
abbrev pub channels_text : Cells → ChannelKind → List ℕ → List ℕ
channels_text cells kind [] = codes " none"
channels_text cells kind (channel ∷ later) = words_of kind ++ flat_map (channel_text cells kind) (channel ∷ later)

-- the line of the credit loop `cycle`, on one lane or by lane; it says `none` if `cycle` is empty
abbrev pub cycle_line : Cells → ChannelKind → List ℕ → List ℕ
cycle_line cells kind cycle = codes "credit loop" ++ channels_text cells kind cycle ++ codes "\n"
