use Rattle.record_file.proofs.PieceLaws.{pieces_are_read}
use Rattle.record_file.proofs.laws.pieces_are_read.Goals as goal

pub returns : goal.returns
returns c = pieces_are_read
