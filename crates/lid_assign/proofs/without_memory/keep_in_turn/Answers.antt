-- The next end port keeps its claim, or does not.
use Rattle.fact_store.specs.View.{cells_of}
use Rattle.lid_assign.proofs.InTurn.{in_turn_more}
use Rattle.lid_assign.proofs.without_memory.keep_in_turn.Goals as goal

pub loop-end-preserved : goal.loop-end-preserved
loop-end-preserved c =
    in_turn_more c.args.lmc (cells_of c.args.store.now) c.loop-end.last c.in-Some.end c.loop-end.claimed c.loop-end.taken c.keep.new.claimed c.keep.new.taken
    c.width.result c.claim.result
    c.keep.result c.in-Some.ensures c.width.ensures.value c.claim.ensures c.keep.ensures.kept c.keep.ensures.claimed c.keep.ensures.taken c.loop-end.invariant
