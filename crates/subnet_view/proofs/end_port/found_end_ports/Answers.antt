-- Each cell that the walk gives is the store's.
use Rattle.fact_store.specs.Iter.{cells_left}
use Rattle.subnet_view.proofs.Walks.{cell_given}
use Rattle.subnet_view.proofs.end_port.found_end_ports.Goals as goal

pub guid_and_port-requires : goal.guid_and_port-requires
guid_and_port-requires c =
    cell_given c.args.store.now c.loop-sighting.yielded (cells_left c.loop-sighting.sighting-iterator) (cells_left c.next.new.self) c.in-Some.sighting
    c.loop-sighting.invariant.1 c.in-Some.ensures.steps
