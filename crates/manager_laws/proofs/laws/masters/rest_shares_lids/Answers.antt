use Rattle.manager_laws.proofs.masters.Rest as proved
use Rattle.manager_laws.proofs.laws.masters.rest_shares_lids.Goals as goal

pub returns : goal.returns
returns c = proved.rest_shares_lids
