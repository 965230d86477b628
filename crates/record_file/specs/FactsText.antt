-- Facts as text. The floor has a line, and so has each key with its cell.
use Rattle.std.specs.Prelude.{ℕ, List, [], ◌++◌, nat_le, codes, decimal, if◌then◌else◌}
use Rattle.std.specs.List.{flat_map}
use Rattle.smp_bytes.specs.Text.{guid_text, port_text, type_word}
use Rattle.fact_join.specs.declared.cell.Cell.{Cell}
use Rattle.fact_join.specs.declared.cell.Cell.TheVariants.{Known, Disputed}
use Rattle.reply_facts.specs.declared.key.Key.{Key}
use Rattle.reply_facts.specs.declared.key.Key.TheVariants.{Node, PortGuid, Link, Port, Claim, Cap}
use Rattle.reply_facts.specs.Key.{kind_word}
use Rattle.fact_store.specs.View.{Facts, cells_of}
use Rattle.reply_facts.specs.declared.value.Value.{Value}
use Rattle.reply_facts.specs.declared.value.Value.TheVariants.{Kind, Guid, Peer, Up, Lid, Count}

-- the text of the node or the port that a fact is about
abbrev pub subject_text : Key → List ℕ
subject_text (Node guid) = guid_text guid
subject_text (PortGuid guid port) = port_text guid port
subject_text (Link guid port) = port_text guid port
subject_text (Port guid port) = port_text guid port
subject_text (Claim guid port) = port_text guid port
subject_text (Cap guid) = guid_text guid

-- the text of what a fact is about: the word of its kind, and the node or the port
abbrev pub key_text : Key → List ℕ
key_text key = kind_word key ++ codes " " ++ subject_text key

-- the text of a value
abbrev pub value_text : Value → List ℕ
value_text (Kind kind ports) = type_word kind ++ codes " " ++ decimal ports
value_text (Guid guid) = guid_text guid
value_text (Peer guid port) = port_text guid port
value_text (Up up) = if up then codes "up" else codes "down"
value_text (Lid lid) = decimal lid
value_text (Count count) = decimal count

-- the text of a cell: its value or `disputed`, and its generation
abbrev pub cell_text : Cell Value → List ℕ
cell_text (Known generation value) = value_text value ++ codes " @" ++ decimal generation
cell_text (Disputed generation) = codes "disputed @" ++ decimal generation

-- the text of a key and its cell, without a line feed
abbrev pub fact_text : Key × Cell Value → List ℕ
fact_text cell = key_text cell.0 ++ codes " " ++ cell_text cell.1

-- the line of a key and its cell
abbrev pub line_text : Key × Cell Value → List ℕ
line_text cell = fact_text cell ++ codes "\n"

-- the line of `floor`; empty if `floor` is at most 1
abbrev pub floor_line : ℕ → List ℕ
floor_line floor = if nat_le floor 1 then [] else codes "floor " ++ decimal floor ++ codes "\n"

-- the text of `facts`: the line of their floor, if the floor is above 1, and a line for each cell, in the order of
-- keys
abbrev pub facts_text : Facts → List ℕ
facts_text facts = floor_line facts.floor ++ flat_map line_text (cells_of facts)
