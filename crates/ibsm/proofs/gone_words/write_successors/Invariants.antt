use Rattle.std.proofs.Common.{take, drop}
use Rattle.std.specs.Prelude.{string_bytes}
use Rattle.byte_io.proofs.Writing.{HasWritten}
use Rattle.ibsm.specs.GoneWords.{successor}
use Rattle.ibsm.proofs.gone_words.write_successors.Given as goal

-- the lines of the words so far were written
abbrev pub invariant-loop-word : goal.invariant-loop-word
invariant-loop-word g l =
    HasWritten g.W.Sink.written g.W.Sink.has_failed (λ word. successor (string_bytes word)) l.initial.sink l.sink (take l.word-index l.words)
    (drop l.word-index l.words) l.words
