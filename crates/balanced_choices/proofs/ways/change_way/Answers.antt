use Rattle.std.proofs.Common.{◌≡◌, ◌+◌, ◌-◌, ◌*◌, ℕ, sym, ap, ◌∙◌, arith, length, get_or}
use Rattle.std.specs.Prelude.{None, Option, slice_set}
use Rattle.port_graph.specs.declared.edge.Edge.{Edge}
use Rattle.balanced_choices.specs.Ways.{changed, channel_by, way, with_changes}
use Rattle.balanced_choices.proofs.EdgeByEdge.{none_left, way_ends, way_goes}
use Rattle.balanced_choices.proofs.ways.change_way.Goals as goal

pub returns-in-None : goal.returns-in-None
returns-in-None c =
    let taken : ℕ → Option Edge = λ q. get_or c.args.taken.now q None in
    let n = length c.args.taken.now in
    sym (ap (with_changes c.args.change c.loop.loads)
    (way_ends taken (n - c.loop.counter) c.loop.position (omega (arith, c.loop-test.true))
    (sym c.edge_at.ensures.edge ∙ c.in-None.is)))
    ∙ c.loop.invariant

pub loop-preserved : goal.loop-preserved
loop-preserved c =
    let taken : ℕ → Option Edge = λ q. get_or c.args.taken.now q None in
    let n = length c.args.taken.now in
    let p = c.loop.position in
    let e = c.in-Some.edge in
    let change = c.args.change in
    let rest = way taken (n - (c.loop.counter + 1)) e.to in
    let goes = way_goes taken n c.loop.counter p e (omega (arith, c.loop-test.true)) (sym c.edge_at.ensures.edge ∙ c.in-Some.is) in
    let port : c.from.result ≡ e.port = c.from.ensures ∙ c.number.ensures in
    let one : slice_set c.loop.loads (256 * p + c.from.result) c.changed.result
    ≡ slice_set c.loop.loads (channel_by p e) (changed change (get_or c.loop.loads (channel_by p e) 0)) =
    ap (slice_set c.loop.loads (256 * p + c.from.result)) c.changed.ensures
    ∙ ap (λ k. slice_set c.loop.loads (256 * p + k) (changed change (get_or c.loop.loads (256 * p + k) 0))) port in
    ap (λ loads. with_changes change loads rest) one ∙ ap (with_changes change c.loop.loads) (sym goes) ∙ c.loop.invariant

pub returns : goal.returns
returns c =
    let taken : ℕ → Option Edge = λ q. get_or c.args.taken.now q None in
    let n = length c.args.taken.now in
    sym (ap (with_changes c.args.change c.loop.loads)
    (none_left taken n c.loop.counter c.loop.position (omega (arith, c.loop-test.false))))
    ∙ c.loop.invariant
