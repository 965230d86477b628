use Rattle.std.proofs.Common.{◌||◌, ◌+◌, ap, ◌∙◌, drop}
use Rattle.std.specs.Prelude.{slice_index}
use Rattle.port_graph.specs.declared.edge.Edge.{Edge}
use Rattle.spread_labels.proofs.TargetBits.{or_bit}
use Rattle.trial_loads.specs.NearTargets.{has_target, is_near_any}
use Rattle.trial_loads.proofs.NearTargets.{any_next}
use Rattle.trial_loads.proofs.near_targets.near_any.Goals as goal

pub loop-edge-preserved : goal.loop-edge-preserved
loop-edge-preserved c k =
    let near = c.args.near.now in
    let es = c.args.edges.now in
    let i = c.loop-edge.edge-index in
    let e = c.edge-item.result in
    ap (λ b. b || is_near_any near (drop (i + 1) es) k) (or_bit c.loop-edge.set (slice_index near e.to) k)
    ∙ any_next (λ (x : Edge). has_target (slice_index near x.to) k) es i e (has_target c.loop-edge.set k) c.loop-edge-test.true c.edge-item.is
    ∙ c.loop-edge.invariant k
