-- Each line stands behind those before it.
use Rattle.topo_file.proofs.Ordered.{read_in_order}
use Rattle.topo_file.proofs.laws.read_topologies_are_in_order.Goals as goal

pub returns : goal.returns
returns c = record { law = read_in_order }
