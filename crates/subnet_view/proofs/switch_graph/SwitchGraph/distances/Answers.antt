-- The distances by index are those by GUID.
use Rattle.std.proofs.Common.{◌≡◌, arith, map}
use Rattle.std.specs.Prelude.{IfOk}
use Rattle.std.specs.declared.result.Result.TheVariants.{Ok, Err}
use Rattle.port_graph.specs.Heads.{AreDistances}
use Rattle.subnet_view.specs.Graph.{guids_of}
use Rattle.subnet_view.specs.Components.{distance}
use Rattle.subnet_view.specs.SwitchGraph.{switch_at}
use Rattle.subnet_view.proofs.SwitchGraphs.{length_is, distances_are}
use Rattle.subnet_view.proofs.switch_graph.SwitchGraph.distances.Goals as goal

pub distances-requires-clause-vertex : goal.distances-requires-clause-vertex
distances-requires-clause-vertex c =
    let l = length_is c.self.inside.guids.items c.self.inside.edges c.self.invariant c.args.self.now c.self.view_is in
    omega (arith, c.requires, c.self.invariant.as_many)

pub returns : goal.returns
returns c =
    let graph = c.args.self.now in
    elim c.distances.result as (λ r. IfOk r (λ found. AreDistances c.self.inside.edges c.args.from found.items)
    → IfOk r (λ found. found.items ≡ map (distance graph (switch_at graph c.args.from)) (guids_of graph))) [
      | Ok found ↦ λ are.
          distances_are c.self.inside.guids.items c.self.inside.edges c.self.invariant graph c.self.view_is c.args.from found.items c.requires are
      | Err e ↦ λ are. tt
    ] c.distances.ensures
