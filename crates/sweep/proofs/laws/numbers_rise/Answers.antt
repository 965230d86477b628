use Rattle.sweep.proofs.Runs as runs
use Rattle.sweep.proofs.laws.numbers_rise.Goals as goal

pub returns : goal.returns
returns c = runs.numbers_rise
