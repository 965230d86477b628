-- The least of the usable switches' table rooms.
use Rattle.std.proofs.Common.{ap, ◌∙◌, arith}
use Rattle.std.specs.List.{filter_map}
use Rattle.fact_store.specs.View.{cells_of}
use Rattle.fact_store.specs.Iter.{cells_left}
use Rattle.lid_assign.specs.Claims.{least_room}
use Rattle.lid_assign.specs.Room.{usable_cap}
use Rattle.lid_assign.proofs.FreeLids.{at_most}
use Rattle.lid_assign.proofs.FreeLids.{room_walked}
use Rattle.subnet_view.proofs.Walks.{cell_given}
use Rattle.lid_assign.proofs.room.room.Goals as goal

pub loop-sighting-init : goal.loop-sighting-init
loop-sighting-init c =
    let cells = cells_of c.args.store.now in
    let left = ap cells_left c.into_iter-sighting-iterator.ensures.into_iter_gives ∙ c.cells-sighting-items.ensures.cells in
    let least = ap (λ xs. least_room (filter_map (usable_cap cells) xs)) left in
    (omega arith, omega (arith, least, at_most (filter_map (usable_cap cells) cells)), left)

pub usable_cap-requires : goal.usable_cap-requires
usable_cap-requires c =
    cell_given c.args.store.now c.loop-sighting.yielded (cells_left c.loop-sighting.sighting-iterator) (cells_left c.next.new.self) c.in-Some.sighting
    c.loop-sighting.invariant.2 c.in-Some.ensures.steps

pub returns : goal.returns
returns c =
    let cells = cells_of c.args.store.now in
    let least = ap (λ xs. least_room (filter_map (usable_cap cells) xs)) c.in-None.ensures.steps.0 in
    omega (arith, c.loop-sighting.invariant.0, c.loop-sighting.invariant.1, least, room_walked cells)
