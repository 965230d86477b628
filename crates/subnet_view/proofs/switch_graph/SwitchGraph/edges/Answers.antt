-- The edges of the switch at an index.
use Rattle.std.proofs.Common.{sym, ap, subst, ◌∙◌, List, length, map}
use Rattle.port_graph.specs.declared.edge.Edge.{Edge}
use Rattle.subnet_view.specs.Graph.{guids_of}
use Rattle.subnet_view.specs.SwitchGraph.{by_guid, LeadBelow}
use Rattle.subnet_view.proofs.SwitchGraphs.{edges_of_switch, edges_to_switches}
use Rattle.subnet_view.proofs.switch_graph.SwitchGraph.edges.Goals as goal

pub returns-clause-edges : goal.returns-clause-edges
returns-clause-edges c =
    ap (map (by_guid (guids_of c.args.self.now))) c.at.ensures
    ∙ edges_of_switch c.self.inside.guids.items c.self.inside.edges c.self.invariant c.args.self.now c.self.view_is c.args.index c.requires

pub returns-clause-to_switches : goal.returns-clause-to_switches
returns-clause-to_switches c =
    subst (λ (es : List Edge). LeadBelow (length c.args.self.now) es) (sym c.at.ensures)
    (edges_to_switches c.self.inside.guids.items c.self.inside.edges c.self.invariant c.args.self.now c.self.view_is c.args.index)
