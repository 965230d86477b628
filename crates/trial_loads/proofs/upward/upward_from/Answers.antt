use Rattle.std.proofs.Common.{◌≡◌, ◌+◌, List, sym, ap, ◌∙◌, arith, drop, get_or}
use Rattle.std.proofs.lemmas.List.{get_or_default}
use Rattle.std.proofs.lemmas.Bool.{le-ltb, lt-ltb}
use Rattle.std.specs.Prelude.{◌||◌, ◌&&◌, nat_lt}
use Rattle.port_graph.specs.declared.edge.Edge.{Edge}
use Rattle.spread_labels.specs.declared.target_set.TargetSet.{TargetSet}
use Rattle.spread_labels.specs.Labels.{leads_up}
use Rattle.spread_labels.specs.MarkSets.{picked}
use Rattle.spread_labels.specs.TargetSet.{has, no_targets}
use Rattle.trial_loads.proofs.Picked.{joined_up, passed_up, picked_from, up_with}
use Rattle.trial_loads.proofs.upward.upward_from.Goals as goal
use Rattle.trial_loads.proofs.upward.upward_from.Goals.{then-edge-position, else-edge-position}

pub loop-j-preserved : goal.loop-j-preserved
loop-j-preserved c k h =
    let p = c.args.position in
    let sets = c.args.sets.now in
    let es = c.args.edges.now in
    let j = c.loop-j.j in
    let e = c.index-edges-j.result in
    let set = get_or sets j no_targets in
    let rest : List Edge = picked k (drop (j + 1) sets) (drop (j + 1) es) in
    let is_set : get_or sets j set ≡ set = get_or_default sets j set no_targets (omega (arith, c.requires, c.loop-j-test.true)) in
    let next = picked_from k sets es j set e c.requires c.loop-j-test.true is_set (sym c.index-edges-j.is) in
    let whole : (has c.loop-j.ups k || ((has set k && nat_lt e.to p) || leads_up p rest)) ≡ leads_up p (picked k sets es) =
    ap (λ b. has c.loop-j.ups k || b) (sym (ap (leads_up p) next ∙ up_with p e rest (has set k)))
    ∙ c.loop-j.invariant k h in
    (elim c.if-edge-position.branch [
      | then-edge-position w ↦
          ap (λ (ups : TargetSet). has ups k || leads_up p rest) w.ups-is
          ∙ ap (λ b. b || leads_up p rest) (w.or-ups.ensures k h)
          ∙ joined_up (has c.loop-j.ups k) (has set k) (leads_up p rest)
          ∙ ap (λ b. has c.loop-j.ups k || ((has set k && b) || leads_up p rest)) (sym (lt-ltb e.to p w.if-edge-position.true))
          ∙ whole
      | else-edge-position w ↦
          ap (λ (ups : TargetSet). has ups k || leads_up p rest) w.ups-is
          ∙ passed_up (has c.loop-j.ups k) (has set k) (leads_up p rest)
          ∙ ap (λ b. has c.loop-j.ups k || ((has set k && b) || leads_up p rest)) (sym (le-ltb e.to p w.if-edge-position.false))
          ∙ whole
    ])
