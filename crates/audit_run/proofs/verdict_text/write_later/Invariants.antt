use Rattle.std.proofs.Common.{take, drop}
use Rattle.byte_io.proofs.Writing.{HasWritten}
use Rattle.audit_run.specs.VerdictText.{later_word}
use Rattle.audit_run.proofs.verdict_text.write_later.Given as goal

-- the words of the flaws so far were written
abbrev pub invariant-loop-flaw : goal.invariant-loop-flaw
invariant-loop-flaw g l =
    HasWritten g.W.Sink.written g.W.Sink.has_failed later_word l.initial.sink l.sink (take l.flaw-index l.flaws) (drop l.flaw-index l.flaws) l.flaws
