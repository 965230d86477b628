use Rattle.next_tables.proofs.Waits.{mixtures_wait_so}
use Rattle.next_tables.proofs.laws.mixtures_wait_so.Goals as goal

pub returns : goal.returns
returns c = record { law = mixtures_wait_so }
