use Rattle.subnet_view.proofs.EndPortList.{end_ports_law}
use Rattle.subnet_view.proofs.laws.end_ports_are_listed_in_order.Goals as goal

pub returns : goal.returns
returns c = end_ports_law
