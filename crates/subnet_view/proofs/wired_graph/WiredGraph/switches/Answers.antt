-- The switches of the graph are the usable ones.
use Rattle.std.proofs.Common.{◌∙◌, ap}
use Rattle.fact_store.specs.View.{cells_of}
use Rattle.subnet_view.specs.Graph.{guids_of}
use Rattle.subnet_view.proofs.GraphSwitches.{graph_guids}
use Rattle.subnet_view.proofs.wired_graph.WiredGraph.switches.Goals as goal

pub returns : goal.returns
returns c = c.switches.ensures ∙ ap guids_of c.args.self.now.is_graph ∙ graph_guids (cells_of c.args.self.now.wires.now)
