-- A byte more of the word, and its end.
use Rattle.std.proofs.Common.{◌≡◌, ℕ, length, sym, subst, add-one, ◌∙◌, arith}
use Rattle.text_words.proofs.Words.{IsBegun, begun, in_word, word_ended, line_ended}
use Rattle.text_words.proofs.text.word_len.Goals as goal

pub loop-place-init : goal.loop-place-init
loop-place-init c = begun c.args.line.now

pub loop-place-preserved : goal.loop-place-preserved
loop-place-preserved c =
    rw (c.is_quoted_after-is_quoted.ensures, add-one)
    (in_word c.args.line.now c.loop-place.place c.loop-place.is_quoted c.loop-place-test.true
    (sym c.is_behind_word.ensures ∙ c.if-is_behind_word.false) c.loop-place.invariant)

pub returns-then-is_behind_word-clause-word : goal.returns-then-is_behind_word-clause-word
returns-then-is_behind_word-clause-word c =
    (word_ended c.args.line.now c.loop-place.place c.loop-place.is_quoted c.loop-place-test.true
    (sym c.is_behind_word.ensures ∙ c.if-is_behind_word.true) c.loop-place.invariant).0

pub returns-then-is_behind_word-clause-behind : goal.returns-then-is_behind_word-clause-behind
returns-then-is_behind_word-clause-behind c =
    (word_ended c.args.line.now c.loop-place.place c.loop-place.is_quoted c.loop-place-test.true
    (sym c.is_behind_word.ensures ∙ c.if-is_behind_word.true) c.loop-place.invariant).1

pub returns-clause-word : goal.returns-clause-word
returns-clause-word c =
    let whole : c.loop-place.place ≡ length c.args.line.now = omega arith in
    (line_ended c.args.line.now c.loop-place.is_quoted (subst (λ (n : ℕ). IsBegun c.args.line.now c.loop-place.is_quoted n) whole c.loop-place.invariant)).0

pub returns-clause-behind : goal.returns-clause-behind
returns-clause-behind c =
    let whole : c.loop-place.place ≡ length c.args.line.now = omega arith in
    (line_ended c.args.line.now c.loop-place.is_quoted (subst (λ (n : ℕ). IsBegun c.args.line.now c.loop-place.is_quoted n) whole c.loop-place.invariant)).1
