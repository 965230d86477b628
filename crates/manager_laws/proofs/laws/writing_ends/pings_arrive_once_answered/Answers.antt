use Rattle.manager_laws.proofs.own_sets.Answered as proved
use Rattle.manager_laws.proofs.laws.writing_ends.pings_arrive_once_answered.Goals as goal

pub returns : goal.returns
returns c = proved.pings_arrive_once_answered
