use Rattle.program_laws.proofs.lasting.HealingExample.{some_manager_heals}
use Rattle.program_laws.proofs.laws.healing.some_manager_heals.Goals as goal

pub returns : goal.returns
returns c = some_manager_heals
