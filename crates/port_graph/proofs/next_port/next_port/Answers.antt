-- Edges lead to vertices.
use Rattle.std.proofs.Common.{◌<◌, List, subst, arith, length}
use Rattle.std.specs.Prelude.{Contains}
use Rattle.port_graph.specs.declared.edge.Edge.{Edge}
use Rattle.port_graph.proofs.SearchSteps.{all_from_contained}
use Rattle.port_graph.proofs.Indexing.{ups_lead, downs_lead}
use Rattle.port_graph.proofs.next_port.next_port.Goals as goal

pub port_nearer-requires : goal.port_nearer-requires
port_nearer-requires c =
    all_from_contained (λ (e : Edge). e.to < length c.args.distances.now) c.at.result.now
    (λ e h. omega (
      arith,
      c.requires.slopes.all,
      downs_lead c.args.ups.now c.args.downs.now c.requires.slopes c.args.vertex e
          (subst (λ (xs : List Edge). Contains xs e) c.at.ensures h),
    ))

pub port_nearer-requires-else-is_some : goal.port_nearer-requires-else-is_some
port_nearer-requires-else-is_some c =
    all_from_contained (λ (e : Edge). e.to < length c.args.costs.now) c.at-else-is_some.result.now
    (λ e h. omega (
      arith,
      ups_lead c.args.ups.now c.args.downs.now c.requires.slopes c.args.vertex e
          (subst (λ (xs : List Edge). Contains xs e) c.at-else-is_some.ensures h),
    ))
