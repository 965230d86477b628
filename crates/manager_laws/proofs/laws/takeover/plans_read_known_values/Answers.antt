use Rattle.manager_laws.proofs.takeover.Seeing as proved
use Rattle.manager_laws.proofs.laws.takeover.plans_read_known_values.Goals as goal

pub returns : goal.returns
returns c = proved.plans_read_known_values
