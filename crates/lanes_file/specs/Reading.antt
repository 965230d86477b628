-- What a text of lanes says: what its lines say, one after another, up to its first fault.
use Rattle.std.specs.Prelude.{ℕ, ◌+◌, ◌==◌, ◌&&◌, not, Bool, true, false, List, [], ◌∷◌, Option, None, Some, Result, Ok, Err, nat_lt, if◌then◌else◌}
use Rattle.std.specs.List.{list_any}
use Rattle.text_words.specs.Text.{lines}
use Rattle.lanes_file.specs.declared.lanes_text_fault.LanesTextError.{LanesTextError}
use Rattle.lanes_file.specs.declared.lanes_text_fault.LanesTextError.TheVariants as wrong
use Rattle.lanes_file.specs.LanesTextFault.{LanesLineFault}
use Rattle.lanes_file.specs.declared.lanes.LaneMap.{LaneMap}
use Rattle.lanes_file.specs.declared.lanes.LevelBlock.{LevelBlock}
use Rattle.lanes_file.specs.declared.lanes_item.LanesItem.{LanesItem}
use Rattle.lanes_file.specs.declared.lanes_item.LanesItem.TheVariants.{Nothing, Lanes, Map, Level, Block}
use Rattle.lanes_file.specs.declared.lanes_line.LanesLine.{LanesLine}
use Rattle.lanes_file.specs.declared.lanes_line.LanesLine.TheVariants as line
use Rattle.lanes_file.specs.declared.lines_before.LinesBefore.{LinesBefore}
use Rattle.lanes_file.specs.Keys.{Key, is_after, map_key, block_key}
use Rattle.lanes_file.specs.Lanes.{LanesSaid, nothing_said}
use Rattle.lanes_file.specs.LanesItem.{said_by}
use Rattle.lanes_file.specs.LanesLine.{line_of}

-- the state before the first line: no line was read
abbrev pub start : LinesBefore
start = record { has_lanes = false; map = None; has_level = false; block = None }

-- the state after a line that says the given item, given the state before the line. The state says which later lines
-- are refused
abbrev pub lines_after : LinesBefore → LanesItem → LinesBefore
lines_after before Nothing = before
lines_after before (Lanes lanes) = record before { has_lanes = true }
lines_after before (Map map) = record before { map = Some (map_key map) }
lines_after before (Level level) = record before { has_level = true }
lines_after before (Block block) = record before { block = Some (block_key block) }

-- the fault `what` at the line `number`
abbrev pub fault_at : {T : Type 0} → ℕ → LanesTextError → Result T LanesLineFault
fault_at number what = Err (record { line = number; wrong = what })

-- the byte `b` is not a lane: it is over 15
abbrev pub is_no_lane : ℕ → Bool
is_no_lane b = nat_lt 15 b

-- the byte `b` is not a service level, and is not 255. The byte 255 says that the block gives the LID no level
abbrev pub is_no_level : ℕ → Bool
is_no_level b = nat_lt 15 b && not (b == 255)

-- the item of a `lanes` line: the lanes of packets that have no map. The fault is `Lane` if a lane is over 15, and
-- otherwise `Repeated` if a `lanes` line came before (`is_second`)
abbrev pub lanes_with : ℕ → Bool → List ℕ → Result LanesItem LanesLineFault
lanes_with number is_second lanes =
    if list_any is_no_lane lanes then fault_at number wrong.Lane
    else if is_second then fault_at number wrong.Repeated
    else Ok (Lanes lanes)

-- the item of an `sl2vl` line: its map. The fault is `Lane` if a lane is over 15. Otherwise it is `Repeated` if the key
-- of the map is not greater than `last`, the key of the map before it; `last` is None if there is no such map
abbrev pub map_after : ℕ → Option Key → LaneMap → Result LanesItem LanesLineFault
map_after number last map =
    if list_any is_no_lane map.lanes then fault_at number wrong.Lane
    else if is_after last (map_key map) then Ok (Map map)
    else fault_at number wrong.Repeated

-- the item of an `sl2vl` line with these numbers: a map. The fault is `Port` if a port is None, which stands for a port
-- over 254
abbrev pub map_with : ℕ → Option Key → ℕ → Option ℕ → Option ℕ → List ℕ → Result LanesItem LanesLineFault
map_with number last node None out lanes = fault_at number wrong.Port
map_with number last node (Some into) None lanes = fault_at number wrong.Port
map_with number last node (Some into) (Some out) lanes =
    map_after number last (record { node = node; into = into; out = out; lanes = lanes })

-- the item of a `level` line: the service level of packets that get none from a block. The fault is `Level` if the
-- level is None, which stands for a level over 15. Otherwise it is `Repeated` if a `level` line came before
-- (`is_second`)
abbrev pub level_with : ℕ → Bool → Option ℕ → Result LanesItem LanesLineFault
level_with number is_second None = fault_at number wrong.Level
level_with number is_second (Some level) = if is_second then fault_at number wrong.Repeated else Ok (Level level)

-- the item of a `levels` line: its block. The fault is `Level` if a byte is over 15 and is not 255. Otherwise it is
-- `Repeated` if the key of the block is not greater than `last`, the key of the block before it; `last` is None if
-- there is no such block
abbrev pub block_after : ℕ → Option Key → LevelBlock → Result LanesItem LanesLineFault
block_after number last block =
    if list_any is_no_level block.levels then fault_at number wrong.Level
    else if is_after last (block_key block) then Ok (Block block)
    else fault_at number wrong.Repeated

-- the item of a `levels` line with these numbers: a block. The fault is `Port` if the port is None, which stands for a
-- port over 254. Otherwise it is `Block` if the number is None, which stands for a number over 767
abbrev pub block_with : ℕ → Option Key → ℕ → Option ℕ → Option ℕ → List ℕ → Result LanesItem LanesLineFault
block_with number last node None block levels = fault_at number wrong.Port
block_with number last node (Some port) None levels = fault_at number wrong.Block
block_with number last node (Some port) (Some block) levels =
    block_after number last (record { node = node; port = port; number = block; levels = levels })

-- what the line with the number `number` says, after the lines before it. A fault if the line is None, since the
-- grammar has no such line, or if the line may not follow the lines before it
abbrev pub item_of : ℕ → LinesBefore → Option LanesLine → Result LanesItem LanesLineFault
item_of number before None = fault_at number wrong.Syntax
item_of number before (Some line.Empty) = Ok Nothing
item_of number before (Some (line.Lanes lanes)) = lanes_with number before.has_lanes lanes
item_of number before (Some (line.Map l)) = map_with number before.map l.node l.into l.out l.lanes
item_of number before (Some (line.Level level)) = level_with number before.has_level level
item_of number before (Some (line.Block l)) = block_with number before.block l.node l.port l.number l.levels

-- what `next` makes of the item that a line says, or what `last` makes of its fault
abbrev pub then_or : {T : Type 0} → Result LanesItem LanesLineFault → (LanesItem → T) → (LanesLineFault → T) → T
then_or (Ok item) next last = next item
then_or (Err fault) next last = last fault

-- the first fault of the lines; None if they have no fault. The first of these lines has the number `number`
abbrev pub first_fault_from : ℕ → LinesBefore → List (List ℕ) → Option LanesLineFault
first_fault_from number before [] = None
first_fault_from number before (l ∷ later) =
    then_or (item_of number before (line_of l))
    (λ item. first_fault_from (number + 1) (lines_after before item) later) Some

-- what each line before the first fault says, from the first line to the last
abbrev pub items_from : ℕ → LinesBefore → List (List ℕ) → List LanesItem
items_from number before [] = []
items_from number before (l ∷ later) =
    then_or (item_of number before (line_of l))
    (λ item. item ∷ items_from (number + 1) (lines_after before item) later) (λ fault. [])

-- the first fault of a text; None if the text has no fault
unfoldable pub first_fault : List ℕ → Option LanesLineFault
first_fault text = first_fault_from 1 start (lines text)

-- what a text says up to its first fault
unfoldable pub lanes_said : List ℕ → LanesSaid
lanes_said text = said_by nothing_said (items_from 1 start (lines text))
