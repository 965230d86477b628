-- Before the first line there are no roots.
use Rattle.roots_file.proofs.Folds.{read_none}
use Rattle.roots_file.proofs.reading.read_lines.Goals as goal

pub loop-line-init : goal.loop-line-init
loop-line-init c = read_none c.args.text.now c.new-roots.result c.new-roots.ensures
