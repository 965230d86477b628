use Rattle.program_laws.proofs.wakes.Writing as wakes
use Rattle.program_laws.proofs.laws.managed.writings_end_in_time.Goals as goal

pub returns : goal.returns
returns c = wakes.writings_end_in_time
