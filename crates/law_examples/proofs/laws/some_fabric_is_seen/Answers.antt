use Rattle.law_examples.proofs.Travelled.{some_fabric_is_seen}
use Rattle.law_examples.proofs.laws.some_fabric_is_seen.Goals as goal

pub returns : goal.returns
returns c = record { law = some_fabric_is_seen }
