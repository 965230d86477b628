use Rattle.std.proofs.Common.{◌≡◌, ◌/◌, ℕ, List, [], sym, ap, ◌∙◌, arith, drop, get_or, length, map}
use Rattle.std.proofs.lemmas.List.{drop_all}
use Rattle.std.proofs.Math.Facts.{Fits-lt-pow}
use Rattle.port_graph.specs.declared.edge.Edge.{Edge}
use Rattle.spread_labels.specs.MarkSets.{picked}
use Rattle.balanced_choices.specs.Ways.{channel_by}
use Rattle.trial_loads.specs.TrialLoads.{with_more}
use Rattle.trial_loads.proofs.Packets.{none_shared, nothing_shared}
use Rattle.trial_loads.proofs.Picked.{picked_long}
use Rattle.trial_loads.proofs.shared_loads.share.Goals as goal

pub returns-then-had-position-eq0 : goal.returns-then-had-position-eq0
returns-then-had-position-eq0 c =
    nothing_shared c.args.position (picked c.args.k c.args.sets.now c.args.edges.now) (record { had = c.args.had.now; carried = c.args.loads.now })
    c.if-had-position-eq0.true (λ i. Fits-lt-pow (c.type_inv.had i)) (λ i. Fits-lt-pow (c.type_inv.loads i))

pub returns-then-count-eq0 : goal.returns-then-count-eq0
returns-then-count-eq0 c =
    let k = c.args.k in
    let sets = c.args.sets.now in
    let edges = c.args.edges.now in
    none_shared c.args.position (picked k sets edges) (record { had = c.args.had.now; carried = c.args.loads.now })
    (picked_long k sets edges c.requires.all ∙ sym c.count_having-count.ensures ∙ c.if-count-eq0.true)

pub returns : goal.returns
returns c =
    let k = c.args.k in
    let p = c.args.position in
    let sets = c.args.sets.now in
    let edges = c.args.edges.now in
    let es = picked k sets edges in
    let n = get_or c.args.had.now p 0 in
    let count = c.count_having-count.result in
    let j = c.loop-j.j in
    let is : count ≡ length es = c.count_having-count.ensures ∙ sym (picked_long k sets edges c.requires.all) in
    let none : picked k (drop j sets) (drop j edges) ≡ [] =
    (λ i. picked k (drop_all j sets (omega (arith, c.loop-j-test.false, c.requires.all)) i) (drop_all j edges c.loop-j-test.false i)) in
    let all : (numbers old : List ℕ) (f : Edge → ℕ)
    → with_more (n / count) numbers (map f (picked k (drop j sets) (drop j edges))) ≡ with_more (n / count) old (map f es)
    → numbers ≡ with_more (n / length es) old (map f es) =
    (λ numbers old f left. ap (λ xs. with_more (n / count) numbers (map f xs)) (sym none) ∙ left ∙ ap (λ m. with_more (n / m) old (map f es)) is) in
    (λ i. record {
      had = all c.loop-j.had c.args.had.now (λ e. e.to) c.loop-j.invariant.had i;
      carried = all c.loop-j.loads c.args.loads.now (channel_by p) c.loop-j.invariant.loads i;
    })
