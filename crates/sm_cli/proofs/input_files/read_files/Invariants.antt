use Rattle.sm_cli.proofs.Runs.{HasReadSome}
use Rattle.sm_cli.proofs.input_files.read_files.Given as goal

abbrev pub invariant-loop-index : goal.invariant-loop-index
invariant-loop-index g l = HasReadSome g.S.Source.state l.fn.floor l.fn.files l.files l.index l.all
