use Rattle.run_laws.proofs.Printed as printed
use Rattle.run_laws.proofs.laws.held_plans_are_reached.Goals as goal

pub returns : goal.returns
returns c = printed.held_plans_are_reached
