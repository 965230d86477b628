use Rattle.program_laws.proofs.alone.LoneExample as alone
use Rattle.program_laws.proofs.laws.healing.some_lone_manager_heals.Goals as goal

pub returns : goal.returns
returns c = alone.some_lone_manager_heals
