use Rattle.subnet_view.proofs.Graphs.{edge_law}
use Rattle.subnet_view.proofs.laws.edges_are_wires_among_switches.Goals as goal

pub returns : goal.returns
returns c = edge_law
