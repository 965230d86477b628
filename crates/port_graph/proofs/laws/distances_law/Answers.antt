use Rattle.port_graph.proofs.DistanceLaws.{distances_in_words}
use Rattle.port_graph.proofs.laws.distances_law.Goals as goal

pub returns : goal.returns
returns c = distances_in_words
