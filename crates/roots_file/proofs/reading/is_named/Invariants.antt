use Rattle.roots_file.proofs.Folds.{HasPassed}
use Rattle.roots_file.proofs.reading.is_named.Given as goal

abbrev pub invariant-loop : goal.invariant-loop
invariant-loop l = HasPassed l.text l.rest l.root l.count l.counter
