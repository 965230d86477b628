use Rattle.manager_laws.proofs.takeover.Rest as proved
use Rattle.manager_laws.proofs.laws.takeover.floors_forget.Goals as goal

pub returns : goal.returns
returns c = proved.floors_forget
