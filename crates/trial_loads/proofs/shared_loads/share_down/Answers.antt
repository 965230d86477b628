use Rattle.std.proofs.Common.{◌≡◌, ◌<◌, ◌+◌, ◌-◌, List, sym, ap, ◌∙◌, subst, arith, cond, length}
use Rattle.std.specs.Prelude.{Contains, filter, not}
use Rattle.port_graph.specs.declared.edge.Edge.{Edge}
use Rattle.port_graph.proofs.SearchSteps.{all_from_contained}
use Rattle.spread_labels.specs.MarkSets.{picked}
use Rattle.spread_labels.specs.Orders.{numbers_from}
use Rattle.trial_loads.specs.TrialLoads.{Packets, candidates_in, goes_up, shared, with_shares}
use Rattle.trial_loads.proofs.Packets.{from_next}
use Rattle.trial_loads.proofs.shared_loads.share_down.Goals as goal
use Rattle.trial_loads.proofs.shared_loads.share_down.Goals.{then-not-has, else-not-has}

pub share-requires-clause-vertices : goal.share-requires-clause-vertices
share-requires-clause-vertices c =
    all_from_contained (λ (e : Edge). e.to < length c.loop-position.had) c.at-edges.result.now
    (λ e h. omega (
      arith,
      c.requires.had,
      c.loop-position.auto.had,
      c.args.ways.now.lead c.loop-position.position e (subst (λ (xs : List Edge). Contains xs e) c.at-edges.ensures h),
    ))

pub loop-position-preserved : goal.loop-position-preserved
loop-position-preserved c =
    let towards = candidates_in c.args.ways.now.graph.now c.args.ways.now.sets.now c.args.k in
    let p = c.loop-position.position in
    let old : Packets = record { had = c.loop-position.had; carried = c.loop-position.loads } in
    let new : Packets = record { had = c.if-not-has.had; carried = c.if-not-has.loads } in
    let less : p < length c.args.ways.now.graph.now = omega (arith, c.loop-position-test.true, c.len-position-end.ensures) in
    let up : c.has.result ≡ goes_up towards p = c.has.ensures ∙ c.args.ways.now.upward.each c.args.k c.requires.target p less in
    let is : new ≡ cond c.has.result old (with_shares p (towards p) old) =
    (elim c.if-not-has.branch [
      | then-not-has w ↦
          (λ i. record { had = w.had-is i; carried = w.loads-is i }) ∙ w.share.ensures
          ∙ (λ i. with_shares p (picked c.args.k (w.at-sets.ensures i) (w.at-edges.ensures i)) old)
          ∙ ap (λ b. cond b old (with_shares p (towards p) old)) (sym w.if-not-has.true)
      | else-not-has w ↦
          (λ i. record { had = w.had-is i; carried = w.loads-is i })
          ∙ ap (λ b. cond b old (with_shares p (towards p) old)) (sym w.if-not-has.false)
    ]) in
    ap (shared towards (filter (λ s. not (goes_up towards s)) (numbers_from (p + 1) (length c.args.ways.now.graph.now - (p + 1)))))
    (is ∙ ap (λ b. cond b old (with_shares p (towards p) old)) up)
    ∙ sym (from_next towards p (length c.args.ways.now.graph.now) old less) ∙ c.loop-position.invariant
