use Rattle.std.proofs.Common.{◌≡◌, ◌<◌, ◌+◌, ℕ, suc, List, sym, ◌∙◌, subst, arith, add-one, length}
use Rattle.std.proofs.lemmas.Bool.Decides.{Decides-eqb}
use Rattle.std.proofs.lemmas.Slice.Eq.{slice_eq-Decides}
use Rattle.std.specs.Prelude.{slice_index}
use Rattle.trial_loads.specs.NearTargets.{AreFurther, AreNear, AreThere, AreWithShares, new_shares}
use Rattle.trial_loads.specs.Starts.{capped}
use Rattle.trial_loads.proofs.NearTargets.{near_further, near_there}
use Rattle.trial_loads.proofs.Shares.{sums_ended, sums_first, sums_more}
use Rattle.trial_loads.proofs.remoteness.add_shares.Goals as goal
use Rattle.trial_loads.proofs.remoteness.add_shares.Goals.{else-loop-distance-test, then-loop-distance-test+in_ok-next+then-eq}

pub loop-distance-init : goal.loop-distance-init
loop-distance-init c =
    let edges = c.args.graph.now.edges.now in
    let targets = c.args.targets.now in
    let near = c.in_ok-near.near.items in
    record {
      near = near_there edges targets near
          (subst (λ (n : ℕ). AreThere n targets (length targets) near) c.len.ensures c.in_ok-near.ensures);
      sums = sums_first edges c.args.graph.now.adapters.now targets c.args.sums.now (λ s. let fits = c.type_inv.sums s in omega (arith, fits));
    }

pub loop-distance-preserved : goal.loop-distance-preserved
loop-distance-preserved c =
    let edges = c.args.graph.now.edges.now in
    let adapters = c.args.graph.now.adapters.now in
    let targets = c.args.targets.now in
    let d = c.loop-distance.distance in
    let near = c.loop-distance.near.items in
    let next = c.in_ok-next.next.items in
    let old = c.args.sums.now in
    let now = c.loop-distance.sums in
    let new = c.add_new_shares.new.sums in
    let are = c.loop-distance.invariant.near in
    let further = subst (λ (xs : List ℕ). AreFurther edges xs (length edges) next) c.deref.ensures.value c.in_ok-next.ensures in
    let after = near_further edges c.args.graph.now.lead targets d near next (omega (arith, c.loop-distance.auto.distance)) are further in
    let one = c.deref-in-loop-distance.ensures.value in
    let two = c.deref-in-loop-distance-2.ensures.value in
    let its = c.deref-in-loop-distance-3.ensures.value ∙ c.in_ok-shares.ensures in
    let each = λ (s : ℕ) (h : s < length edges).
    c.add_new_shares.ensures s (omega (arith, h, c.loop-distance.auto.sums, c.requires.sums))
    ∙ (λ i. capped (slice_index now s + new_shares (its i) (slice_index (one i) s) (slice_index (two i) s))) in
    record {
      near = subst (λ (k : ℕ). AreNear edges targets k next) (sym (add-one d)) after;
      sums = subst (λ (k : ℕ). AreWithShares edges adapters targets k old new) (sym (add-one d))
          (sums_more edges adapters targets d near next old now new are after c.loop-distance.invariant.sums each);
    }

pub returns : goal.returns
returns c = elim c.loop-distance-test.branch [
  | else-loop-distance-test w ↦ λ s h.
      let edges = c.args.graph.now.edges.now in
      let ended : c.loop-distance.distance ≡ length edges
      = omega (arith, h, w.loop-distance-test.false, c.loop-distance.auto.distance-end, c.len-distance-end.ensures) in
      subst (λ (k : ℕ). AreWithShares edges c.args.graph.now.adapters.now c.args.targets.now k c.args.sums.now c.loop-distance.sums) ended
      c.loop-distance.invariant.sums s h
  | then-loop-distance-test+in_ok-next+then-eq w ↦
      let edges = c.args.graph.now.edges.now in
      let targets = c.args.targets.now in
      let d = c.loop-distance.distance in
      let near = c.loop-distance.near.items in
      let next = w.in_ok-next.next.items in
      let are = c.loop-distance.invariant.near in
      let same : next ≡ near = (slice_eq-Decides Decides-eqb next near w.eq.result w.eq.ensures).0 w.if-eq.true in
      let further = subst (λ (xs : List ℕ). AreFurther edges xs (length edges) next) w.deref.ensures.value w.in_ok-next.ensures in
      let after = near_further edges c.args.graph.now.lead targets d near next (omega (arith, c.loop-distance.auto.distance)) are further in
      sums_ended edges c.args.graph.now.lead c.args.graph.now.adapters.now targets d (length edges) near c.args.sums.now c.loop-distance.sums
      (omega (arith, w.loop-distance-test.true, c.len-distance-end.ensures)) are (subst (AreNear edges targets (suc d)) same after)
      c.loop-distance.invariant.sums
]
