use Rattle.std.proofs.Common.{◌<◌, ◌+◌, ◌||◌, List, sym, ap, ◌∙◌, subst, arith, bit_or, length}
use Rattle.std.specs.Prelude.{Contains, slice_index}
use Rattle.port_graph.specs.declared.edge.Edge.{Edge}
use Rattle.port_graph.proofs.SearchSteps.{all_from_contained}
use Rattle.spread_labels.proofs.TargetBits.{or_bit}
use Rattle.trial_loads.specs.NearTargets.{AreFurther, has_target, is_near_any}
use Rattle.trial_loads.proofs.NearTargets.{further_more}
use Rattle.trial_loads.proofs.near_targets.one_further.Goals as goal

pub near_any-requires : goal.near_any-requires
near_any-requires c =
    all_from_contained (λ (e : Edge). e.to < length c.args.near.now) c.at.result.now
    (λ e h. omega (arith, c.requires.near, c.requires.lead c.loop-vertex.vertex e (subst (λ (xs : List Edge). Contains xs e) c.at.ensures h)))

pub loop-vertex-preserved : goal.loop-vertex-preserved
loop-vertex-preserved c =
    let edges = c.args.edges.now in
    let near = c.args.near.now in
    let v = c.loop-vertex.vertex in
    let set = bit_or (slice_index near v) c.near_any.result in
    subst (AreFurther edges near (v + 1)) (sym c.in_ok-push.ensures.items)
    (further_more edges near v c.loop-vertex.next.items set c.loop-vertex.invariant
    (λ k. or_bit (slice_index near v) c.near_any.result k
    ∙ ap (λ b. has_target (slice_index near v) k || b) (c.near_any.ensures k ∙ ap (λ es. is_near_any near es k) c.at.ensures)))
