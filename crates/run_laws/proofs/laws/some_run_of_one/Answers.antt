use Rattle.run_laws.proofs.Example.{some_run_of_one}
use Rattle.run_laws.proofs.laws.some_run_of_one.Goals as goal

pub returns : goal.returns
returns c = some_run_of_one
