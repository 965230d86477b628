use Rattle.std.proofs.Common.{◌≡◌, ◌+◌, ◌-◌, ◌*◌, ℕ, List, max, sym, ap, ◌∙◌, arith, length, get_or, map}
use Rattle.std.specs.Prelude.{None, Option, min}
use Rattle.spread_labels.specs.Level.{greatest}
use Rattle.port_graph.specs.declared.edge.Edge.{Edge}
use Rattle.balanced_choices.specs.Ways.{channel_by, way}
use Rattle.balanced_choices.proofs.EdgeByEdge.{greatest_least, none_left, way_ends, way_goes}
use Rattle.balanced_choices.proofs.ways.peak_from.Goals as goal

pub returns-in-None : goal.returns-in-None
returns-in-None c =
    let taken : ℕ → Option Edge = λ q. get_or c.args.taken.now q None in
    let n = length c.args.taken.now in
    let loads = c.args.loads.now in
    ap (λ m. min m c.args.enough) (sym (ap (λ cs. greatest c.loop.peak (map (λ k. get_or loads k 0) cs))
    (way_ends taken (n - c.loop.counter) c.loop.position (omega (arith, c.loop-test.true))
    (sym c.edge_at.ensures.edge ∙ c.in-None.is)))
    ∙ c.loop.invariant)

pub returns-then-peak-enough : goal.returns-then-peak-enough
returns-then-peak-enough c =
    let loads = c.args.loads.now in
    let taken : ℕ → Option Edge = λ q. get_or c.args.taken.now q None in
    let rest : List ℕ = map (λ k. get_or loads k 0) (way taken (length c.args.taken.now - c.loop.counter) c.loop.position) in
    let most = greatest_least c.loop.peak rest in
    let is : greatest c.loop.peak rest ≡ greatest c.args.found (map (λ k. get_or loads k 0) (way taken (length c.args.taken.now) c.args.from)) =
    c.loop.invariant in
    omega (arith, most, is, c.if-peak-enough.true)

pub loop-preserved : goal.loop-preserved
loop-preserved c =
    let taken : ℕ → Option Edge = λ q. get_or c.args.taken.now q None in
    let n = length c.args.taken.now in
    let p = c.loop.position in
    let e = c.in-Some.edge in
    let loads = c.args.loads.now in
    let rest : List ℕ = map (λ k. get_or loads k 0) (way taken (n - (c.loop.counter + 1)) e.to) in
    let goes = way_goes taken n c.loop.counter p e (omega (arith, c.loop-test.true)) (sym c.edge_at.ensures.edge ∙ c.in-Some.is) in
    let port : c.from.result ≡ e.port = c.from.ensures ∙ c.number.ensures in
    let one : c.max-peak.result ≡ max c.loop.peak (get_or loads (channel_by p e) 0) =
    c.max-peak.ensures ∙ ap (λ k. max c.loop.peak (get_or loads (256 * p + k) 0)) port in
    ap (λ m. greatest m rest) one ∙ sym (ap (λ cs. greatest c.loop.peak (map (λ k. get_or loads k 0) cs)) goes) ∙ c.loop.invariant

pub returns : goal.returns
returns c =
    let taken : ℕ → Option Edge = λ q. get_or c.args.taken.now q None in
    let n = length c.args.taken.now in
    let loads = c.args.loads.now in
    ap (λ m. min m c.args.enough) (sym (ap (λ cs. greatest c.loop.peak (map (λ k. get_or loads k 0) cs))
    (none_left taken n c.loop.counter c.loop.position (omega (arith, c.loop-test.false))))
    ∙ c.loop.invariant)
