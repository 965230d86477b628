use Rattle.subnet_view.proofs.WireLaws.{end_port_law}
use Rattle.subnet_view.proofs.laws.end_port_is_in_words.Goals as goal

pub returns : goal.returns
returns c = end_port_law
