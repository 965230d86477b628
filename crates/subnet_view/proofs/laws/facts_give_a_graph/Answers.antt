use Rattle.subnet_view.proofs.Graphs.{graph_law}
use Rattle.subnet_view.proofs.laws.facts_give_a_graph.Goals as goal

pub returns : goal.returns
returns c = graph_law
