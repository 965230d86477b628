use Rattle.std.proofs.Common.{arith}
use Rattle.spread_labels.proofs.PortLists.{cleared_more}
use Rattle.spread_labels.proofs.candidate_lists.clear.Goals as goal

pub loop-list-preserved : goal.loop-list-preserved
loop-list-preserved c =
    cleared_more c.loop-list.lists c.loop-list.list-index c.clear.new.self c.clear.ensures.items (omega (arith, c.loop-list-test.true)) c.loop-list.invariant
