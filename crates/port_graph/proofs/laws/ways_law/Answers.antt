use Rattle.port_graph.proofs.Indexing.{ways_in_words}
use Rattle.port_graph.proofs.laws.ways_law.Goals as goal

pub returns : goal.returns
returns c = ways_in_words
