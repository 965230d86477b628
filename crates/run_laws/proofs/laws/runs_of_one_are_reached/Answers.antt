use Rattle.run_laws.proofs.Bringing as bringing
use Rattle.run_laws.proofs.laws.runs_of_one_are_reached.Goals as goal

pub returns : goal.returns
returns c = bringing.runs_of_one_are_reached
