use Rattle.subnet_view.proofs.WireEnds.{wires_go_both_ways}
use Rattle.subnet_view.proofs.laws.wires_go_both_ways.Goals as goal

pub returns : goal.returns
returns c = wires_go_both_ways
