-- The LIDs that were found are below the room.
use Rattle.std.proofs.Common.{arith}
use Rattle.fact_store.specs.View.{cells_of}
use Rattle.lid_assign.proofs.FreeLids.{room_at_most}
use Rattle.lid_assign.proofs.LidLaws.{found_in_room}
use Rattle.lid_assign.proofs.assignment.assign_to.Goals as goal

pub new-requires : goal.new-requires
new-requires c =
    let found = rw c.in-Ok-Some.field-0-is at c.in-Ok-Some.ensures in
    λ e n h. omega (arith, found_in_room c.args.lmc (cells_of c.args.store.now) c.in-Ok-Some.given.items found e n h, room_at_most (cells_of c.args.store.now))
