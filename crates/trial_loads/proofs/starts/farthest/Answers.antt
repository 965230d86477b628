use Rattle.std.proofs.Common.{◌<◌, ℕ, sym, ap, ◌∙◌, subst, length}
use Rattle.std.specs.Prelude.{Some}
use Rattle.spread_labels.specs.KeyOrder.{before_by}
use Rattle.spread_labels.specs.Growth.{earlier_of, earliest_of}
use Rattle.spread_labels.specs.Orders.{numbers_from}
use Rattle.spread_labels.proofs.Earlier.{earlier_below, earliest_more}
use Rattle.trial_loads.specs.Starts.{starts_before}
use Rattle.trial_loads.proofs.Remote.{numbers_to}
use Rattle.trial_loads.proofs.starts.farthest.Goals as goal

pub loop-vertex-preserved : goal.loop-vertex-preserved
loop-vertex-preserved c =
    let before = starts_before c.args.near.now (before_by c.args.keys.now) in
    let n = c.loop-vertex.vertex in
    let told = c.loop-vertex.invariant.0 in
    let bound = length c.args.keys.now in (
      ap Some (c.farther.ensures ∙ ap (λ o. earlier_of before o n) told)
          ∙ sym (ap (earliest_of before) (numbers_to n) ∙ earliest_more before (numbers_from 0 n) n),
      subst (λ (k : ℕ). k < bound) (sym c.farther.ensures)
          (earlier_below before c.loop-vertex.found n bound c.loop-vertex.invariant.1 c.loop-vertex-test.true),
    )
