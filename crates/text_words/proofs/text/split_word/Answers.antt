-- The first word, or none.
use Rattle.std.proofs.Common.{sym, ◌∙◌}
use Rattle.text_words.proofs.Words.{words_none, comment_at, word_at}
use Rattle.text_words.proofs.text.split_word.Goals as goal

pub returns-in_err-word_start : goal.returns-in_err-word_start
returns-in_err-word_start c =
    rw c.from_residual.ensures (words_none c.args.line.now (sym c.word_start.ensures ∙ c.in_err-word_start.was))

pub returns-then-line-eq35 : goal.returns-then-line-eq35
returns-then-line-eq35 c =
    comment_at c.args.line.now _ _ (sym c.word_start.ensures ∙ c.in_ok-word_start.was) c.split_at.ensures.back c.if-line-eq35.true

pub returns-else-line-eq35 : goal.returns-else-line-eq35
returns-else-line-eq35 c =
    rw (c.split_at-else-line-eq35.ensures.front, c.split_at-else-line-eq35.ensures.back)
    (word_at c.args.line.now _ _ _ (sym c.word_start.ensures ∙ c.in_ok-word_start.was) c.split_at.ensures.back
    c.if-line-eq35.false c.word_len.ensures.word c.word_len.ensures.behind)
