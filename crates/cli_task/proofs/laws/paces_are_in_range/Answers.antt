use Rattle.cli_task.proofs.Paces.{paces_are_in_range}
use Rattle.cli_task.proofs.laws.paces_are_in_range.Goals as goal

pub returns : goal.returns
returns c = record { law = paces_are_in_range }
