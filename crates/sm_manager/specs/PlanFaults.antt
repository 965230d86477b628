-- When a manager has no plan because some end port finds no LID, and why it begins no writing.
use Rattle.std.specs.Prelude.{ℕ, Bool, ◌+◌, ◌^◌, nat_lt, if◌then◌else◌, Option, Some, None}
use Rattle.fact_store.specs.View.{cells_of}
use Rattle.subnet_view.specs.Reading.{Cells}
use Rattle.lid_assign.specs.declared.lid_fault.NoRoom.{NoRoom}
use Rattle.lid_assign.specs.LidFault.{no_room}
use Rattle.plan_steps.specs.Bound.{most_steps}
use Rattle.sm_manager.specs.declared.fault.ManagerFault.{ManagerFault}
use Rattle.sm_manager.specs.declared.fault.ManagerFault.TheVariants as fault
use Rattle.sm_manager.specs.Manager.{Manager}
use Rattle.sm_manager.specs.Writing.{write_fault}

-- `NoRoom` with the given reason if there is one, else None
abbrev pub room_fault : Option NoRoom → Option ManagerFault
room_fault None = None
room_fault (Some why) = Some (fault.NoRoom why)

-- `NoRoom` if some end port of the facts `cells` finds no LID under the LMC `lmc`, else None
abbrev pub plan_fault : ℕ → Cells → Option ManagerFault
plan_fault lmc cells = room_fault (no_room lmc cells)

-- the first fault if there is one, else the second
abbrev pub or_else : Option ManagerFault → Option ManagerFault → Option ManagerFault
or_else None other = other
or_else (Some why) other = Some why

-- `SequenceSpent` if `counter`, which is one more than the greatest number needed, is above 2^32; else None
abbrev pub number_fault : ℕ → Option ManagerFault
number_fault counter = if nat_lt (2 ^ 32) counter then Some fault.SequenceSpent else None

-- `SequenceSpent` if `are_numbers` says that too few numbers are left, else None
abbrev pub unless_numbers : Bool → Option ManagerFault
unless_numbers are_numbers = if are_numbers then None else Some fault.SequenceSpent

-- why no writing begins, lack of memory aside: the manager is not master or has begun no sweep, a sweep or a writing
-- runs, there is no plan, or a phase could need numbers that do not fit in 32 bits; None if a writing may begin
abbrev pub writing_fault : Manager → Option ManagerFault
writing_fault m =
    or_else (write_fault m)
    (or_else (plan_fault m.planning.lmc (cells_of m.store)) (number_fault (m.counter + most_steps (cells_of m.store))))
