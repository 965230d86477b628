use Rattle.updown_routes.proofs.NextPorts.{next_port_law}
use Rattle.updown_routes.proofs.laws.next_ports_are_in_words.Goals as goal

pub returns : goal.returns
returns c = next_port_law
