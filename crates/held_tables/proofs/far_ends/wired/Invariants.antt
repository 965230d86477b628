use Rattle.held_tables.proofs.Wired.{AreWired}
use Rattle.held_tables.proofs.far_ends.wired.Given as goal

-- the ports so far
abbrev pub invariant-loop-port : goal.invariant-loop-port
invariant-loop-port l = AreWired l.fars l.port l.count
