use Rattle.manager_laws.proofs.takeover.Rest as proved
use Rattle.manager_laws.proofs.laws.takeover.rest_is_served.Goals as goal

pub returns : goal.returns
returns c = proved.rest_is_served
