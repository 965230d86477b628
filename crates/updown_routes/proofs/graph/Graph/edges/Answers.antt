-- The graph has the edges.
use Rattle.std.proofs.Common.{subst, List, length}
use Rattle.subnet_view.specs.SwitchEdges.{SwitchEdges}
use Rattle.subnet_view.specs.SwitchGraph.{LeadBelow}
use Rattle.updown_routes.proofs.graph.Graph.edges.Goals as goal

pub returns-clause-to_switches : goal.returns-clause-to_switches
returns-clause-to_switches c =
    let Lead : List SwitchEdges → Type 0 = λ graph. LeadBelow (length graph) c.edges.result.now in
    subst Lead c.self.view_is c.edges.ensures.to_switches
