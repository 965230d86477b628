use Rattle.next_tables.proofs.Waits.{no_cycle_in_step}
use Rattle.next_tables.proofs.laws.no_cycle_in_step.Goals as goal

pub returns : goal.returns
returns c = record { law = no_cycle_in_step }
