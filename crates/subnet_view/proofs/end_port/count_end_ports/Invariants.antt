use Rattle.std.proofs.Common.{◌≡◌, ◌+◌, ◌++◌, length}
use Rattle.fact_store.specs.View.{cells_of}
use Rattle.std.specs.List.{filter_map}
use Rattle.fact_store.specs.Iter.{cells_left}
use Rattle.subnet_view.specs.EndPort.{guid_and_port}
use Rattle.subnet_view.proofs.end_port.count_end_ports.Given as goal

-- the end ports of the cells that were passed, and all cells that are left; and the cells given and left are the store's
abbrev pub invariant-loop-sighting : goal.invariant-loop-sighting
invariant-loop-sighting l =
    (l.count + length (filter_map (guid_and_port (cells_of l.store)) (cells_left l.sighting-iterator))
    ≡ length (cells_left l.sighting-iterator) + length (filter_map (guid_and_port (cells_of l.store)) (cells_of l.store)))
    × (l.yielded ++ cells_left l.sighting-iterator ≡ cells_of l.store)
