use Rattle.sweep.proofs.Counts.{each_counts}
use Rattle.sweep.proofs.laws.each_request_counts.Goals as goal

pub returns : goal.returns
returns c = each_counts
