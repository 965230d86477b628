use Rattle.next_tables.proofs.StepLaws.{steps_send_none_round}
use Rattle.next_tables.proofs.laws.steps_send_none_round.Goals as goal

pub returns : goal.returns
returns c = record { law = steps_send_none_round }
