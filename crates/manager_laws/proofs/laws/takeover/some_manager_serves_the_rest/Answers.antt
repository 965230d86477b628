use Rattle.manager_laws.proofs.takeover.ExampleRest as proved
use Rattle.manager_laws.proofs.laws.takeover.some_manager_serves_the_rest.Goals as goal

pub returns : goal.returns
returns c = proved.some_manager_serves_the_rest
