use Rattle.manager_laws.proofs.takeover.Rest as proved
use Rattle.manager_laws.proofs.laws.takeover.raised_managers_know_nothing.Goals as goal

pub returns : goal.returns
returns c = proved.raised_managers_know_nothing
