use Rattle.std.proofs.Common.{◌≡◌, ℕ, List, Vec, Global, sym, ap, ◌∙◌, subst, arith, add-one, length, map}
use Rattle.std.proofs.lemmas.List.{length-map, with_items_is}
use Rattle.std.specs.Vec.{with_items}
use Rattle.spread_labels.specs.declared.target_set.TargetSet.{TargetSet}
use Rattle.spread_labels.specs.MarkSets.{AreAtTargets, AreCandidateSets, AreSame, AreSetSteps, AreSetsAfter}
use Rattle.spread_labels.proofs.SetRounds.{all_stays, are_candidates, sets_at_first, sets_more}
use Rattle.spread_labels.proofs.candidate_sets.rows_towards.Goals as goal
use Rattle.spread_labels.proofs.candidate_sets.rows_towards.Goals.{else-loop-round-test, then-loop-round-test+in_ok-next+then-is_last}

abbrev row_items : Vec TargetSet Global → List TargetSet
row_items row = row.items

-- as many rows are written back
written_back : (rows : Vec (Vec TargetSet Global) Global) (new : List (Vec TargetSet Global)) → length (map row_items new) ≡ length (map row_items rows.items)
    → (with_items rows new).items ≡ new
written_back rows new same =
    with_items_is rows new (omega (arith, same, length-map new row_items, length-map rows.items row_items, rows.ok.0))

pub loop-round-init : goal.loop-round-init
loop-round-init c =
    let marks = c.in_ok-marks.marks in
    sets_at_first c.args.edges.now c.args.targets.now marks.marked.items marks.downs.items (map row_items c.in_ok-rows.rows.items)
    (subst (λ (n : ℕ). AreAtTargets n c.args.targets.now (length c.args.targets.now) marks.marked.items) c.len.ensures c.in_ok-marks.ensures.marked)
    (subst (λ (n : ℕ). AreAtTargets n c.args.targets.now (length c.args.targets.now) marks.downs.items) c.len.ensures c.in_ok-marks.ensures.downs)
    c.requires.few c.in_ok-rows.ensures

pub loop-round-preserved : goal.loop-round-preserved
loop-round-preserved c =
    let edges = c.args.edges.now in
    let targets = c.args.targets.now in
    let n = c.loop-round.round in
    let marks = c.loop-round.marks in
    let next = c.in_ok-next.next in
    let rows = map row_items c.loop-round.rows.items in
    let new = map row_items c.after_round.new.rows in
    let steps = subst
    (λ (xs : List (Vec TargetSet Global)). AreSetSteps edges marks.marked.items marks.downs.items (map row_items xs) (length edges)
    next.marked.items next.downs.items new)
    c.deref_mut.ensures.value c.in_ok-next.ensures in
    let more = sets_more edges targets n marks.marked.items marks.downs.items rows next.marked.items next.downs.items new c.requires.lead c.requires.few
    c.loop-round.invariant steps in
    subst (λ (x : ℕ × List (Vec TargetSet Global)). AreSetsAfter edges targets x.0 next.marked.items next.downs.items (map row_items x.1))
    (λ i. (sym (add-one n) i, sym (written_back c.loop-round.rows c.after_round.new.rows steps.all_rows) i)) more

pub returns : goal.returns
returns c = elim c.loop-round-test.branch [
  | else-loop-round-test w ↦
      let edges = c.args.edges.now in
      let targets = c.args.targets.now in
      let marks = c.loop-round.marks in
      let ended : c.loop-round.round ≡ length edges = omega (arith, w.loop-round-test.false, c.loop-round.auto.round-end, c.len-round-end.ensures) in
      let all = subst
      (λ (k : ℕ). AreSetsAfter edges targets k marks.marked.items marks.downs.items (map row_items c.loop-round.rows.items)) ended c.loop-round.invariant in
      subst (λ (rows : List (Vec TargetSet Global)). AreCandidateSets edges targets (map row_items rows)) (sym (ap (λ v. v.items) w.rows-is))
      (are_candidates edges targets marks.marked.items marks.downs.items (map row_items c.loop-round.rows.items) all)
  | then-loop-round-test+in_ok-next+then-is_last w ↦
      let edges = c.args.edges.now in
      let targets = c.args.targets.now in
      let n = c.loop-round.round in
      let marks = c.loop-round.marks in
      let next = w.in_ok-next.next in
      let rows = map row_items c.loop-round.rows.items in
      let new = map row_items w.after_round.new.rows in
      let steps = subst
      (λ (xs : List (Vec TargetSet Global)). AreSetSteps edges marks.marked.items marks.downs.items (map row_items xs) (length edges)
      next.marked.items next.downs.items new)
      w.deref_mut.ensures.value w.in_ok-next.ensures in
      let more = sets_more edges targets n marks.marked.items marks.downs.items rows next.marked.items next.downs.items new c.requires.lead c.requires.few
      c.loop-round.invariant steps in
      let same = subst (λ (k : ℕ). AreSame marks.marked.items next.marked.items k) c.loop-round.invariant.all_marked
      (w.are_same-is_last.ensures.0 w.if-is_last.true) in
      let all = all_stays edges targets n (length edges) marks.marked.items marks.downs.items next.marked.items next.downs.items rows new c.requires.lead
      (omega (arith, w.loop-round-test.true, c.len-round-end.ensures)) c.requires.few c.loop-round.invariant more same in
      subst (λ (xs : List (Vec TargetSet Global)). AreCandidateSets edges targets (map row_items xs))
      (sym (ap (λ v. v.items) w.rows-is ∙ written_back c.loop-round.rows w.after_round.new.rows steps.all_rows))
      (are_candidates edges targets next.marked.items next.downs.items new all)
]
