use Rattle.packet_walks.proofs.InTime.{ends_are_found}
use Rattle.packet_walks.proofs.laws.ends_are_found.Goals as goal

pub returns : goal.returns
returns c = record { law = ends_are_found }
