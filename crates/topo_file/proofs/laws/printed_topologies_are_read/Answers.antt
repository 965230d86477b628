-- Its lines are read one by one.
use Rattle.topo_file.proofs.Printed.{printed_is_read}
use Rattle.topo_file.proofs.laws.printed_topologies_are_read.Goals as goal

pub returns : goal.returns
returns c = record { law = printed_is_read }
