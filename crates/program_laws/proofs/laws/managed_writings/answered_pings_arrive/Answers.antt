use Rattle.program_laws.proofs.lasting.AnsweredRuns as lasting
use Rattle.program_laws.proofs.laws.managed_writings.answered_pings_arrive.Goals as goal

pub returns : goal.returns
returns c = lasting.answered_pings_arrive
