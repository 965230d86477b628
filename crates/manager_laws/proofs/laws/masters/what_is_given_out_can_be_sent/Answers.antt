use Rattle.manager_laws.proofs.masters.Runs as proved
use Rattle.manager_laws.proofs.laws.masters.what_is_given_out_can_be_sent.Goals as goal

pub returns : goal.returns
returns c = proved.what_is_given_out_can_be_sent
