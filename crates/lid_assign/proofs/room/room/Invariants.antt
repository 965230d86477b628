use Rattle.std.proofs.Common.{◌≡◌, ◌≤◌, ◌++◌, min}
use Rattle.fact_store.specs.View.{cells_of}
use Rattle.std.specs.List.{filter_map}
use Rattle.fact_store.specs.Iter.{cells_left}
use Rattle.lid_assign.specs.Claims.{least_room}
use Rattle.lid_assign.specs.Room.{usable_cap}
use Rattle.lid_assign.proofs.room.room.Given as goal

-- the least so far, and the least of the rest; and the cells given and left are the store's
abbrev pub invariant-loop-sighting : goal.invariant-loop-sighting
invariant-loop-sighting l = (l.least ≤ 0xC000)
    × (min l.least (least_room (filter_map (usable_cap (cells_of l.store)) (cells_left l.sighting-iterator)))
    ≡ least_room (filter_map (usable_cap (cells_of l.store)) (cells_of l.store)))
    × (l.yielded ++ cells_left l.sighting-iterator ≡ cells_of l.store)
