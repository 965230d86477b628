use Rattle.record_file.proofs.PieceLaws.{cuts_change_nothing}
use Rattle.record_file.proofs.laws.cuts_change_nothing.Goals as goal

pub returns : goal.returns
returns c = cuts_change_nothing
