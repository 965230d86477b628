use Rattle.std.specs.Io.KnownBytes.{Keeps}
use Rattle.byte_io.proofs.to_write.flush_all.Given as goal

-- what the writer holds stays
abbrev pub invariant-loop : goal.invariant-loop
invariant-loop g l = Keeps (g.W.Write.contents l.initial.writer) (g.W.Write.contents l.writer)
