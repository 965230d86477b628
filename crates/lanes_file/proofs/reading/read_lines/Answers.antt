-- Before the first line nothing is said.
use Rattle.lanes_file.proofs.Folds.{read_none}
use Rattle.lanes_file.proofs.reading.read_lines.Goals as goal

pub loop-line-init : goal.loop-line-init
loop-line-init c = read_none c.args.text.now c.start-before.result c.new-said.result c.start-before.ensures c.new-said.ensures
