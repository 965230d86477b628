use Rattle.program_laws.proofs.lasting.Healing as lasting
use Rattle.program_laws.proofs.laws.healing.heals_in_time.Goals as goal

pub returns : goal.returns
returns c = lasting.heals_in_time
