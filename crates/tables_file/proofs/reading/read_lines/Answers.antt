-- Before the first line nothing is held.
use Rattle.tables_file.proofs.Folds.{read_none}
use Rattle.tables_file.proofs.reading.read_lines.Goals as goal

pub loop-line-init : goal.loop-line-init
loop-line-init c = read_none c.args.text.now c.start-last_lines.result c.new-held.result c.start-last_lines.ensures c.new-held.ensures
