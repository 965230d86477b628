use Rattle.run_laws.proofs.SweepLines.{sweep_lines_tell}
use Rattle.run_laws.proofs.laws.sweep_lines_tell.Goals as goal

pub returns : goal.returns
returns c = sweep_lines_tell
