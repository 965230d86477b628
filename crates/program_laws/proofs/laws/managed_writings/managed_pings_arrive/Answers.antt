use Rattle.program_laws.proofs.managed.Pinged.{managed_pings_arrive}
use Rattle.program_laws.proofs.laws.managed_writings.managed_pings_arrive.Goals as goal

pub returns : goal.returns
returns c = managed_pings_arrive
