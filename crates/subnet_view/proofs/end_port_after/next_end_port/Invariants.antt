use Rattle.std.proofs.Common.{◌≡◌, ◌++◌}
use Rattle.fact_store.specs.View.{cells_of}
use Rattle.std.specs.List.{filter_map}
use Rattle.fact_store.specs.Iter.{cells_left}
use Rattle.subnet_view.specs.EndPort.{guid_and_port}
use Rattle.subnet_view.proofs.NextEndPort.{IsNext}
use Rattle.subnet_view.proofs.end_port_after.next_end_port.Given as goal

-- the next one of the end ports of the cells that were passed; and the cells given and left are the store's
abbrev pub invariant-loop-sighting : goal.invariant-loop-sighting
invariant-loop-sighting l =
    IsNext l.last (filter_map (guid_and_port (cells_of l.store)) l.yielded) l.next
    × (l.yielded ++ cells_left l.sighting-iterator ≡ cells_of l.store)
