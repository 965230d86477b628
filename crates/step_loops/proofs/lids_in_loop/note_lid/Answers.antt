-- A channel more.
use Rattle.std.proofs.Common.{◌∙◌, ◌<◌, ℕ, length, refl, subst, arith}
use Rattle.std.specs.Prelude.{slice_index_or}
use Rattle.std.proofs.lemmas.Grind.{get_or_default_zero}
use Rattle.step_loops.specs.LidsInLoop.{IsNoted}
use Rattle.step_loops.proofs.LoopLids.{one_noted}
use Rattle.step_loops.proofs.lids_in_loop.note_lid.Goals as goal

pub loop-index-preserved : goal.loop-index-preserved
loop-index-preserved c =
    let old = c.loop-index.lids in
    let index = c.loop-index.index in
    let cycle = c.args.cycle.now in
    let after = c.args.after.now in
    let many = c.loop-index.invariant.as_many in
    let less : index < length c.args.lids.now = omega arith in
    let known = c.index-lids-index.is ∙ get_or_default_zero old index c.index-lids-index.result (omega arith) in
    one_noted c.args.held.now c.args.next.now c.args.lid cycle after c.args.lids.now index c.noted.result old _ c.loop-index.invariant less
    (subst (λ (k : ℕ). IsNoted c.args.held.now c.args.next.now c.args.lid (slice_index_or cycle index 0) (slice_index_or after index 0) k c.noted.result)
    known c.noted.ensures)
    refl
