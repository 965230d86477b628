-- There are as many switches as GUIDs, and together they are a graph.
use Rattle.std.proofs.Common.{arith}
use Rattle.subnet_view.proofs.SwitchGraphs.{length_is, good}
use Rattle.subnet_view.proofs.switch_graph.SwitchGraph.len.Goals as goal

pub returns-clause-count : goal.returns-clause-count
returns-clause-count c = let l =
    length_is c.self.inside.guids.items c.self.inside.edges c.self.invariant c.args.self.now c.self.view_is in omega (arith, c.len.ensures)

pub returns-clause-is_graph : goal.returns-clause-is_graph
returns-clause-is_graph c = good c.self.inside.guids.items c.self.inside.edges c.self.invariant c.args.self.now c.self.view_is
