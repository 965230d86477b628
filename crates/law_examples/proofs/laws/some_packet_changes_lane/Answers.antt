use Rattle.law_examples.proofs.ByLane.{some_packet_changes_lane}
use Rattle.law_examples.proofs.laws.some_packet_changes_lane.Goals as goal

pub returns : goal.returns
returns c = record { law = some_packet_changes_lane }
