use Rattle.manager_laws.proofs.masters.ExampleRest as proved
use Rattle.manager_laws.proofs.laws.masters.some_masters_share_rest.Goals as goal

pub returns : goal.returns
returns c = proved.some_masters_share_rest
