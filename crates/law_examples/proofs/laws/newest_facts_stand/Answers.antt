use Rattle.law_examples.proofs.Computed.{newest_facts_stand}
use Rattle.law_examples.proofs.laws.newest_facts_stand.Goals as goal

pub returns : goal.returns
returns c = record { law = newest_facts_stand }
