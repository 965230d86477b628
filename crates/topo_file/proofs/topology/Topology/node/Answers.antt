use Rattle.topo_file.proofs.Indexes.{listed_is_node}
use Rattle.topo_file.proofs.topology.Topology.node.Goals as goal

pub returns-clause-is_node : goal.returns-clause-is_node
returns-clause-is_node c = listed_is_node c.self.inside.nodes c.args.node c.get.result c.self.invariant.0.nodes c.get.ensures
