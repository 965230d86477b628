-- Where it is found, or that it is not.
use Rattle.std.proofs.Common.{arith, sym}
use Rattle.held_order.proofs.ToldPositions.{found_in, not_found_in}
use Rattle.held_order.proofs.orders.position_in.Goals as goal

pub returns-then-other-vertex : goal.returns-then-other-vertex
returns-then-other-vertex c =
    sym (found_in c.args.taken.now c.args.vertex c.loop-index.index c.loop-index-test.true c.if-other-vertex.true
    c.loop-index.invariant)

pub returns : goal.returns
returns c =
    sym (not_found_in c.args.taken.now c.args.vertex
    (λ i less. c.loop-index.invariant i (omega (arith, less, c.loop-index-test.false))))
