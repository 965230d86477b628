use Rattle.manager_laws.proofs.Rests.{new_managers_rest}
use Rattle.manager_laws.proofs.laws.new_managers_rest.Goals as goal

pub returns : goal.returns
returns c = new_managers_rest
