use Rattle.std.proofs.Common.{◌≡◌, ◌<◌, ◌+◌, ℕ, List, ◌∷◌, sym, ap, ◌∙◌, arith, drop, get_or, length, map}
use Rattle.std.specs.Prelude.{min}
use Rattle.std.proofs.lemmas.Bool.{le-ltb, lt-ltb}
use Rattle.std.proofs.lemmas.List.{drop_all, drop_more, get_or-take, length-take}
use Rattle.port_graph.specs.declared.edge.Edge.{Edge}
use Rattle.port_graph.specs.Heads.{edges_at}
use Rattle.balanced_choices.specs.EdgesTaken.{lightest_by, peak_by}
use Rattle.balanced_choices.specs.Ways.{candidates_at, least_from}
use Rattle.balanced_choices.proofs.LeastPeak.{least_kept, least_next}
use Rattle.balanced_choices.proofs.ways.lightest.Goals as goal
use Rattle.balanced_choices.proofs.ways.lightest.Goals.{then-peak-least, else-peak-least}

pub loop-k-preserved : goal.loop-k-preserved
loop-k-preserved c =
    let ways = c.args.ways.now in
    let p = c.args.position in
    let f = peak_by c.args.taken.now c.args.loads.now p in
    let cands : List Edge = candidates_at ways p in
    let k = c.loop-k.k in
    let best = c.loop-k.best in
    let least = c.loop-k.least in
    let e = c.index-edges-k.result in
    let peak = c.peak-peak.result in
    let same : c.at-edges.result.now ≡ edges_at ways p = c.at-edges.ensures in
    let few : k < min (length (edges_at ways p)) 256 = omega (arith, c.loop-k-test.true, c.min-k-end.ensures, ap length same) in
    let long : length cands ≡ min 256 (length (edges_at ways p)) = length-take 256 (edges_at ways p) in
    let is : get_or cands k e ≡ e = get_or-take 256 (edges_at ways p) k e (omega (arith, few)) ∙ ap (λ es. get_or es k e) (sym same) ∙ sym c.index-edges-k.is in
    let rest : List ℕ = map f (drop (k + 1) cands) in
    let here : drop k cands ≡ e ∷ drop (k + 1) cands = drop_more cands k e (omega (arith, few, long)) ∙ ap (λ x. x ∷ drop (k + 1) cands) is in
    let left : least_from best least k (f e ∷ rest) ≡ lightest_by ways c.args.taken.now c.args.loads.now p =
    sym (ap (λ es. least_from best least k (map f es)) here) ∙ c.loop-k.invariant.1 in
    let told : min peak least ≡ min (f e) least = c.peak-peak.ensures in
    elim c.if-peak-least.branch [
      | then-peak-least w ↦
          let same : peak ≡ f e = omega (arith, told, w.if-peak-least.true) in (
            omega (arith, few, w.best-is),
            (λ i. least_from (w.best-is i) (w.least-is i) (k + 1) rest) ∙ ap (λ n. least_from k n (k + 1) rest) same
                ∙ least_next best least k (f e) rest (lt-ltb (f e) least (omega (arith, same, w.if-peak-least.true))) ∙ left,
          )
      | else-peak-least w ↦ (
        omega (arith, w.best-is, c.loop-k.invariant.0),
        (λ i. least_from (w.best-is i) (w.least-is i) (k + 1) rest)
            ∙ least_kept best least k (f e) rest (le-ltb (f e) least (omega (arith, told, w.if-peak-least.false))) ∙ left,
      )
    ]

pub returns : goal.returns
returns c =
    let ways = c.args.ways.now in
    let p = c.args.position in
    let f = peak_by c.args.taken.now c.args.loads.now p in
    let cands : List Edge = candidates_at ways p in
    let same : c.at-edges.result.now ≡ edges_at ways p = c.at-edges.ensures in
    let long : length cands ≡ min 256 (length (edges_at ways p)) = length-take 256 (edges_at ways p) in
    let none = drop_all c.loop-k.k cands (omega (arith, long, c.loop-k-test.false, c.min-k-end.ensures, ap length same)) in
    sym (ap (λ es. least_from c.loop-k.best c.loop-k.least c.loop-k.k (map f es)) none) ∙ c.loop-k.invariant.1
