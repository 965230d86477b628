use Rattle.std.proofs.Common.{◌≡◌, ◌++◌}
use Rattle.fact_store.specs.View.{cells_of}
use Rattle.std.specs.List.{filter_map}
use Rattle.fact_store.specs.Iter.{cells_left}
use Rattle.subnet_view.specs.Reading.{usable_guid}
use Rattle.subnet_view.proofs.switch.listed_switches.Given as goal

-- what was found, and what the rest has, are all that there is; and the cells given and left are the store's
abbrev pub invariant-loop-sighting : goal.invariant-loop-sighting
invariant-loop-sighting l =
    (l.found.items ++ filter_map (usable_guid (cells_of l.store)) (cells_left l.sighting-iterator)
    ≡ filter_map (usable_guid (cells_of l.store)) (cells_of l.store))
    × (l.yielded ++ cells_left l.sighting-iterator ≡ cells_of l.store)
