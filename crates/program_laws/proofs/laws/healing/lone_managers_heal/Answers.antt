use Rattle.program_laws.proofs.alone.LoneHealing as alone
use Rattle.program_laws.proofs.laws.healing.lone_managers_heal.Goals as goal

pub returns : goal.returns
returns c = alone.lone_managers_heal
