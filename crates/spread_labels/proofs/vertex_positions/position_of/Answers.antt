-- Where it is found, or that it is not.
use Rattle.std.proofs.Common.{◌<◌, length, arith}
use Rattle.spread_labels.proofs.Found.{found_at, not_found}
use Rattle.spread_labels.proofs.vertex_positions.position_of.Goals as goal

pub returns-then-other-vertex : goal.returns-then-other-vertex
returns-then-other-vertex c =
    let vertices = c.args.vertices.now in
    let less : c.loop-index.index < length vertices = c.loop-index-test.true in
    found_at vertices c.args.vertex c.loop-index.index less c.if-other-vertex.true c.loop-index.invariant

pub returns : goal.returns
returns c =
    not_found c.args.vertices.now c.args.vertex (λ i less. c.loop-index.invariant i (omega (arith, less, c.loop-index-test.false)))
