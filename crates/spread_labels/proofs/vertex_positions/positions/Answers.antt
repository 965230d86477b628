use Rattle.std.proofs.Common.{arith}
use Rattle.spread_labels.proofs.PositionSteps.{positions_are}
use Rattle.spread_labels.proofs.vertex_positions.positions.Goals as goal

pub returns : goal.returns
returns c =
    positions_are c.args.count c.args.vertices.now c.loop-position.positions.items c.requires c.loop-position.invariant.0
    (λ p h. c.loop-position.invariant.1 p (omega (arith, h, c.loop-position-test.false)))
