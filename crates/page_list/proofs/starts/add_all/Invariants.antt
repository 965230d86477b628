-- The numbers up to here have what is added, and the others not yet.
use Rattle.std.proofs.Common.{◌≡◌, take, drop, ◌++◌}
use Rattle.page_list.specs.Starts.{raised}
use Rattle.page_list.proofs.starts.add_all.Given as goal

abbrev pub invariant-loop-i : goal.invariant-loop-i
invariant-loop-i l = l.numbers ≡ take l.i (raised l.added 0 l.fn.numbers) ++ drop l.i l.fn.numbers
