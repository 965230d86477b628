use Rattle.law_examples.proofs.Travelled.{some_packet_travels}
use Rattle.law_examples.proofs.laws.some_packet_travels.Goals as goal

pub returns : goal.returns
returns c = record { law = some_packet_travels }
