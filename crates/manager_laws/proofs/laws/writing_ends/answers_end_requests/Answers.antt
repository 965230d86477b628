use Rattle.manager_laws.proofs.writing_ends.Ended as proved
use Rattle.manager_laws.proofs.laws.writing_ends.answers_end_requests.Goals as goal

pub returns : goal.returns
returns c = proved.answers_end_requests
