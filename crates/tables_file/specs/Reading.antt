-- What a text of tables says: what its lines say, one after the other, up to the first fault.
use Rattle.std.specs.Prelude.{ℕ, ◌+◌, ◌^◌, ◌==◌, ◌||◌, ◌&&◌, Bool, List, [], ◌∷◌, Option, None, Some, Result, Ok, Err, nat_lt, if◌then◌else◌}
use Rattle.text_words.specs.Text.{lines}
use Rattle.tables_file.specs.declared.tables_text_fault.TablesTextError.{TablesTextError}
use Rattle.tables_file.specs.declared.tables_text_fault.TablesTextError.TheVariants as wrong
use Rattle.tables_file.specs.TablesTextFault.{TablesLineFault}
use Rattle.tables_file.specs.declared.tables_line.TextLine.{TextLine}
use Rattle.tables_file.specs.declared.tables_line.TextLine.TheVariants as line
use Rattle.held_tables.specs.declared.held_item.HeldItem.{HeldItem}
use Rattle.held_tables.specs.declared.held_item.HeldItem.TheVariants.{Nothing, Lid, Switch, Block}
use Rattle.tables_file.specs.declared.last_lines.LastLines.{LastLines}
use Rattle.held_tables.specs.declared.held.HeldLid.{HeldLid}
use Rattle.held_tables.specs.declared.held.HeldSwitch.{HeldSwitch}
use Rattle.held_tables.specs.Held.{HeldPlan, LidRange, nothing_held}
use Rattle.held_tables.specs.HeldItem.{held_with}
use Rattle.tables_file.specs.TablesLine.{line_of}

-- what is kept before the first line: no line of a LID or of a switch was read
abbrev pub start : LastLines
start = record { lid = None; switch = None; block = 0 }

-- what is kept after a line that says the given item, from what was kept before the line. Later lines are checked
-- against it
abbrev pub last_lines_after : LastLines → HeldItem → LastLines
last_lines_after last_lines Nothing = last_lines
last_lines_after last_lines (Lid range) = record last_lines { lid = Some range.first }
last_lines_after last_lines (Switch switch) = record last_lines { switch = Some switch.guid; block = 0 }
last_lines_after last_lines (Block number entries) = record last_lines { block = number + 1 }

-- the fault `what` at the line `number`
abbrev pub fault_at : {T : Type 0} → ℕ → TablesTextError → Result T TablesLineFault
fault_at number what = Err (record { line = number; wrong = what })

-- whether `held` comes after `last`: the LID, the node or, on the same node, the port of `held` is greater. The LID
-- of `held` must not be less than that of `last`
abbrev pub is_behind : HeldLid → HeldLid → Bool
is_behind last held =
    nat_lt last.lid held.lid || nat_lt last.port.node held.port.node
    || (last.port.node == held.port.node && nat_lt last.port.port held.port.port)

-- the LIDs of an end port, if they come after `last`, the first LID of the previous `lid` line; otherwise the fault
-- of the line
abbrev pub lid_behind : ℕ → HeldLid → LidRange → Result HeldItem TablesLineFault
lid_behind number last range =
    if nat_lt range.first.lid last.lid then fault_at number wrong.Lid
    else if is_behind last range.first then Ok (Lid range)
    else fault_at number wrong.Port

-- the LIDs of an end port, if they come after `last`, the first LID of the previous `lid` line, or if `last` is None,
-- since there is no such line; otherwise the fault of the line
abbrev pub lid_after : ℕ → Option HeldLid → LidRange → Result HeldItem TablesLineFault
lid_after number None range = Ok (Lid range)
lid_after number (Some last) range = lid_behind number last range

-- the LIDs of an end port, if the greatest of them is at most 0xBFFF, and they come after the previous `lid` line or
-- there is no such line; otherwise the fault of the line
abbrev pub lid_in_room : ℕ → Option HeldLid → LidRange → Result HeldItem TablesLineFault
lid_in_room number last range =
    if nat_lt 0xC000 (range.first.lid + 2 ^ range.lmc) then fault_at number wrong.Lid else lid_after number last range

-- the LIDs of an end port, given the numbers in its line, or the fault of the line; None stands for a number that is
-- out of range, which is a fault
abbrev pub lid_with : ℕ → Option HeldLid → Option ℕ → ℕ → Option ℕ → Option ℕ → Result HeldItem TablesLineFault
lid_with number last None node port lmc = fault_at number wrong.Lid
lid_with number last (Some lid) node None lmc = fault_at number wrong.Port
lid_with number last (Some lid) node (Some port) None = fault_at number wrong.Lmc
lid_with number last (Some lid) node (Some port) (Some lmc) =
    lid_in_room number last (record {
      first = record { lid = lid; port = record { node = node; port = port } };
      lmc =
          lmc;
    })

-- a switch, if its GUID is greater than that of the previous switch, or if the previous switch is None, since there
-- is none; otherwise the fault of the line
abbrev pub switch_after : ℕ → Option ℕ → HeldSwitch → Result HeldItem TablesLineFault
switch_after number None switch = Ok (Switch switch)
switch_after number (Some last) switch =
    if nat_lt last switch.guid then Ok (Switch switch) else fault_at number wrong.Switch

-- a switch, given the GUID and the top in its line, or the fault of the line; None stands for a top that is out of
-- range, which is a fault
abbrev pub switch_with : ℕ → Option ℕ → ℕ → Option ℕ → Result HeldItem TablesLineFault
switch_with number last guid None = fault_at number wrong.Lid
switch_with number last guid (Some top) = switch_after number last (record { guid = guid; top = top })

-- a block, if its number is at least `next`; otherwise the fault of the line. None stands for a number that is out of
-- range, which is a fault
abbrev pub block_after : ℕ → ℕ → Option ℕ → List ℕ → Result HeldItem TablesLineFault
block_after number next None entries = fault_at number wrong.Block
block_after number next (Some block) entries =
    if nat_lt block next then fault_at number wrong.Block else Ok (Block block entries)

-- a block, if there is a switch line before it, and its number is in range and at least `next`; otherwise the fault
-- of the line
abbrev pub block_below : ℕ → Option ℕ → ℕ → Option ℕ → List ℕ → Result HeldItem TablesLineFault
block_below number None next block entries = fault_at number wrong.Syntax
block_below number (Some switch) next block entries = block_after number next block entries

-- a block, given the number and the entries in its line, if it may follow the lines before it; otherwise the fault of
-- the line
abbrev pub block_with : ℕ → LastLines → Option ℕ → List ℕ → Result HeldItem TablesLineFault
block_with number last_lines block entries = block_below number last_lines.switch last_lines.block block entries

-- if the line `number` may follow the lines before it, the item that the line says; otherwise a fault. None stands
-- for a line that the grammar does not have, which is a fault
abbrev pub item_of : ℕ → LastLines → Option TextLine → Result HeldItem TablesLineFault
item_of number last_lines None = fault_at number wrong.Syntax
item_of number last_lines (Some line.Empty) = Ok Nothing
item_of number last_lines (Some (line.Lid l)) = lid_with number last_lines.lid l.lid l.node l.port l.lmc
item_of number last_lines (Some (line.Switch l)) = switch_with number last_lines.switch l.guid l.top
item_of number last_lines (Some (line.Block l)) = block_with number last_lines l.number l.entries

-- `next` applied to the item that a line says, or `last` applied to the fault of the line
abbrev pub then_or : {T : Type 0} → Result HeldItem TablesLineFault → (HeldItem → T) → (TablesLineFault → T) → T
then_or (Ok item) next last = next item
then_or (Err fault) next last = last fault

-- the first fault of the lines; None if the lines have no fault. The first line has the number `number`
abbrev pub first_fault_from : ℕ → LastLines → List (List ℕ) → Option TablesLineFault
first_fault_from number last_lines [] = None
first_fault_from number last_lines (l ∷ later) =
    then_or (item_of number last_lines (line_of l)) (λ item. first_fault_from (number
    + 1) (last_lines_after last_lines item) later) Some

-- the items that the lines before the first fault say, in the order of the lines
abbrev pub items_from : ℕ → LastLines → List (List ℕ) → List HeldItem
items_from number last_lines [] = []
items_from number last_lines (l ∷ later) =
    then_or (item_of number last_lines (line_of l)) (λ item. item
    ∷ items_from (number + 1) (last_lines_after last_lines item) later) (λ fault. [])

-- the tables after lines that say `items`, where `held` are the tables before these lines
abbrev pub held_by : HeldPlan → List HeldItem → HeldPlan
held_by held [] = held
held_by held (item ∷ items) = held_by (held_with held item) items

-- the first fault of a text; None if the text has no fault
unfoldable pub first_fault : List ℕ → Option TablesLineFault
first_fault text = first_fault_from 1 start (lines text)

-- the tables that a text gives up to its first fault
unfoldable pub held_of : List ℕ → HeldPlan
held_of text = held_by nothing_held (items_from 1 start (lines text))
