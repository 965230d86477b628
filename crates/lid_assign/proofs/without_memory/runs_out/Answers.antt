-- The room is at most the first number that is no unicast LID.
use Rattle.std.proofs.Common.{◌≤◌, arith}
use Rattle.fact_store.specs.View.{cells_of}
use Rattle.lid_assign.proofs.FreeLids.{room_at_most}
use Rattle.lid_assign.proofs.without_memory.runs_out.Goals as goal

pub runs_out_below-requires-clause-within : goal.runs_out_below-requires-clause-within
runs_out_below-requires-clause-within c =
    let most : c.from.result ≤ 0xC000 = omega (arith, c.from.ensures, c.room.ensures, room_at_most (cells_of c.args.store.now)) in most
