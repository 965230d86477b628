use Rattle.packet_walks.proofs.Told.{packets_end_as_told_in_parts}
use Rattle.packet_walks.proofs.laws.packets_end_as_told_in_parts.Goals as goal

pub returns : goal.returns
returns c = record { law = packets_end_as_told_in_parts }
