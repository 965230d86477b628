-- When end ports get no LIDs: no room, or no memory.
use Rattle.std.specs.Prelude.{ℕ, Bool, true, false, List, Option, None, Some, length, codes, if◌then◌else◌}
use Rattle.subnet_view.specs.Reading.{Cells}
use Rattle.subnet_view.specs.EndPort.{end_ports}
use Rattle.lid_assign.specs.declared.lid_fault.NoRoom.{NoRoom as Room}
use Rattle.lid_assign.specs.declared.lid_fault.LidFault.{LidFault}
use Rattle.lid_assign.specs.declared.lid_fault.LidFault.TheVariants.{NoRoom, Memory}
use Rattle.lid_assign.specs.Lids.{is_no_room}
use Rattle.lid_assign.specs.Claims.{room}

-- the name of a fault of assigning LIDs
abbrev pub lid_fault_name : LidFault → List ℕ
lid_fault_name (NoRoom why) = codes "NoRoom"
lid_fault_name Memory = codes "Memory"

-- whether the fault is lack of memory, and not lack of room
abbrev pub is_memory : LidFault → Bool
is_memory (NoRoom why) = false
is_memory Memory = true

-- the number of end ports and the room, if some end port finds no LID; otherwise None
abbrev pub no_room : ℕ → Cells → Option Room
no_room lmc cells =
    if is_no_room lmc cells then Some (record { endports = length (end_ports cells); room = room cells }) else None

-- `NoRoom` if a lack of room is given, otherwise None
abbrev pub lid_fault : Option Room → Option LidFault
lid_fault None = None
lid_fault (Some why) = Some (NoRoom why)
