use Rattle.text_words.proofs.Words.{IsBegun}
use Rattle.text_words.proofs.text.word_len.Given as goal

-- the bytes seen are in the word
abbrev pub invariant-loop-place : goal.invariant-loop-place
invariant-loop-place l = IsBegun l.line l.is_quoted l.place
