use Rattle.std.proofs.Common.{◌<◌, ◌-◌, List, arith, length, subst}
use Rattle.std.specs.Prelude.{Contains}
use Rattle.port_graph.specs.declared.edge.Edge.{Edge}
use Rattle.port_graph.proofs.SearchSteps.{all_from_contained}
use Rattle.trial_loads.proofs.shared_loads.share_up.Goals as goal

pub share-requires-clause-vertices : goal.share-requires-clause-vertices
share-requires-clause-vertices c =
    all_from_contained (λ (e : Edge). e.to < length c.loop-position.had) c.at-edges.result.now
    (λ e h. omega (
      arith,
      c.requires.had,
      c.loop-position.auto.had,
      c.args.ways.now.lead (c.loop-position.position - 1) e (subst (λ (xs : List Edge). Contains xs e) c.at-edges.ensures h),
    ))
