use Rattle.program_laws.proofs.managed.Example.{some_manager_decides}
use Rattle.program_laws.proofs.laws.managed_writings.some_manager_decides.Goals as goal

pub returns : goal.returns
returns c = some_manager_decides
