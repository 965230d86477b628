use Rattle.program_laws.proofs.wakes.FreshWork as wakes
use Rattle.program_laws.proofs.laws.healing.works_again_in_time.Goals as goal

pub returns : goal.returns
returns c = wakes.works_again_in_time
