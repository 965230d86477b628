use Rattle.subnet_view.proofs.WireLaws.{wire_law}
use Rattle.subnet_view.proofs.laws.wire_is_in_words.Goals as goal

pub returns : goal.returns
returns c = wire_law
