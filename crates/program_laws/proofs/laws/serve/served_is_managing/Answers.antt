use Rattle.program_laws.proofs.serve.Managed as managed
use Rattle.program_laws.proofs.laws.serve.served_is_managing.Goals as goal

pub returns : goal.returns
returns c = managed.served_is_managing
