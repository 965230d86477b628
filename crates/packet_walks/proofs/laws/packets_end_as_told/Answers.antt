use Rattle.packet_walks.proofs.Told.{packets_end_as_told}
use Rattle.packet_walks.proofs.laws.packets_end_as_told.Goals as goal

pub returns : goal.returns
returns c = record { law = packets_end_as_told }
