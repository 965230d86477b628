-- There are no more marks than unicast LIDs, and 0.
use Rattle.std.proofs.Common.{arith, ap, length, sym, ◌∙◌}
use Rattle.fact_store.specs.View.{cells_of}
use Rattle.lid_assign.proofs.FreeLids.{room_at_most, written_over}
use Rattle.lid_assign.proofs.assignment.handed_out.Goals as goal

pub hand_out-requires-clause-room : goal.hand_out-requires-clause-room
hand_out-requires-clause-room c =
    let len = sym c.deref_mut-2.ensures.len ∙ ap length c.deref_mut-2.ensures.value in
    let marks = c.deref_mut-3.ensures.value
    ∙ written_over c.in_ok-taken.taken.len c.in_ok-taken.taken.items c.keep_claims.new.taken len (c.keep_claims.auto.taken
    ∙ ap length c.deref_mut-2.ensures.value) in
    omega (arith, room_at_most (cells_of c.args.store.now), ap length marks, c.in_ok-keepers.ensures.taken.all)
