use Rattle.program_laws.proofs.wakes.WritingExample as wakes
use Rattle.program_laws.proofs.laws.managed.some_manager_begins_to_write.Goals as goal

pub returns : goal.returns
returns c = wakes.some_manager_begins_to_write
