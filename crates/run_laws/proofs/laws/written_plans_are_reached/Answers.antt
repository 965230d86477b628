use Rattle.run_laws.proofs.Printed as printed
use Rattle.run_laws.proofs.laws.written_plans_are_reached.Goals as goal

pub returns : goal.returns
returns c = printed.written_plans_are_reached
