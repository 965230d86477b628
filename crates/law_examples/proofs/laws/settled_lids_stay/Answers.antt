use Rattle.law_examples.proofs.Computed.{settled_lids_stay}
use Rattle.law_examples.proofs.laws.settled_lids_stay.Goals as goal

pub returns : goal.returns
returns c = record { law = settled_lids_stay }
