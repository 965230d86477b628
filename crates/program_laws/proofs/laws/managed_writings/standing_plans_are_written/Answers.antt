use Rattle.program_laws.proofs.lasting.Standing as lasting
use Rattle.program_laws.proofs.laws.managed_writings.standing_plans_are_written.Goals as goal

pub returns : goal.returns
returns c = lasting.standing_plans_are_written
