use Rattle.program_laws.proofs.lasting.Answered as lasting
use Rattle.program_laws.proofs.laws.managed.answered_sweeps_are_whole.Goals as goal

pub returns : goal.returns
returns c = lasting.answered_sweeps_are_whole
