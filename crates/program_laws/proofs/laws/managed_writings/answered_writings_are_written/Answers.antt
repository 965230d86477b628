use Rattle.program_laws.proofs.lasting.AnsweredWritings as lasting
use Rattle.program_laws.proofs.laws.managed_writings.answered_writings_are_written.Goals as goal

pub returns : goal.returns
returns c = lasting.answered_writings_are_written
