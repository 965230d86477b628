use Rattle.record_file.proofs.Accepted.{accepted}
use Rattle.record_file.proofs.laws.report_files_are_accepted.Goals as goal

pub returns : goal.returns
returns c = accepted
