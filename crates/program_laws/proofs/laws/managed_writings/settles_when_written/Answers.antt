use Rattle.program_laws.proofs.lasting.Settling as lasting
use Rattle.program_laws.proofs.laws.managed_writings.settles_when_written.Goals as goal

pub returns : goal.returns
returns c = lasting.settles_when_written
