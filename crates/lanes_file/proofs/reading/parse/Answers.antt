-- What a text says is well formed.
use Rattle.lanes_file.proofs.WellFormed.{read_well_formed}
use Rattle.lanes_file.proofs.reading.parse.Goals as goal

pub of-requires : goal.of-requires
of-requires c = read_well_formed c.args.text.now c.in-Ok.said c.in-Ok.ensures.1
