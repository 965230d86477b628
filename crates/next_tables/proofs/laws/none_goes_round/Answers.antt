use Rattle.next_tables.proofs.Steps.{none_goes_round}
use Rattle.next_tables.proofs.laws.none_goes_round.Goals as goal

pub returns : goal.returns
returns c = record { law = none_goes_round }
