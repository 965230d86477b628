use Rattle.program_laws.proofs.alone.Leading as alone
use Rattle.program_laws.proofs.laws.healing.lone_managers_lead_in_time.Goals as goal

pub returns : goal.returns
returns c = alone.lone_managers_lead_in_time
