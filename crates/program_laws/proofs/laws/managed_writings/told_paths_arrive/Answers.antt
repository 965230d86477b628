use Rattle.program_laws.proofs.lasting.ToldPaths as lasting
use Rattle.program_laws.proofs.laws.managed_writings.told_paths_arrive.Goals as goal

pub returns : goal.returns
returns c = lasting.told_paths_arrive
