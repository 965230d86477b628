use Rattle.manager_laws.proofs.Arrive.{pings_arrive_once_written}
use Rattle.manager_laws.proofs.laws.pings_arrive_once_written.Goals as goal

pub returns : goal.returns
returns c = pings_arrive_once_written
