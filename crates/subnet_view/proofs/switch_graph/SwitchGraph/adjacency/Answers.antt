-- The edges of all switches are those of each.
use Rattle.std.proofs.Common.{arith}
use Rattle.subnet_view.proofs.SwitchGraphs.{length_is, good, edges_of_switch}
use Rattle.subnet_view.proofs.switch_graph.SwitchGraph.adjacency.Goals as goal

pub returns-clause-edges : goal.returns-clause-edges
returns-clause-edges c =
    let guids = c.self.inside.guids.items in
    let edges = c.self.inside.edges in
    let graph = c.args.self.now in
    let is = c.self.invariant in
    record {
      as_many = omega (arith, is.as_many, length_is guids edges is graph c.self.view_is);
      to_switches = is.to_switches;
      each = edges_of_switch guids edges is graph c.self.view_is;
    }

pub returns-clause-is_graph : goal.returns-clause-is_graph
returns-clause-is_graph c = good c.self.inside.guids.items c.self.inside.edges c.self.invariant c.args.self.now c.self.view_is
