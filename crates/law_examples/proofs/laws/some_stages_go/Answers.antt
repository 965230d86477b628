use Rattle.law_examples.proofs.Stages.{some_stages_go}
use Rattle.law_examples.proofs.laws.some_stages_go.Goals as goal

pub returns : goal.returns
returns c = record { law = some_stages_go }
