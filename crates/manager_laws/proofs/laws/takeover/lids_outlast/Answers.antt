use Rattle.manager_laws.proofs.takeover.Rest as proved
use Rattle.manager_laws.proofs.laws.takeover.lids_outlast.Goals as goal

pub returns : goal.returns
returns c = proved.lids_outlast
