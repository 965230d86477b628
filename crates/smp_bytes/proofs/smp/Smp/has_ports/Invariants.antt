-- What is left to compare decides.
use Rattle.std.proofs.Common.{◌≡◌, ◌+◌, drop}
use Rattle.smp_bytes.specs.Answers.{has_ports}
use Rattle.smp_bytes.proofs.smp.Smp.has_ports.Given as goal

abbrev pub invariant-loop-i : goal.invariant-loop-i
invariant-loop-i l = has_ports l.self 1 l.path ≡ has_ports l.self (l.i + 1) (drop l.i l.path)
