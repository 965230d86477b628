-- A digit more, and all digits.
use Rattle.std.proofs.Common.{◌≡◌, get_or, ◌==◌, ◌-◌, ◌^◌, length, arith, sym, ap, ◌∙◌, true, false}
use Rattle.text_words.proofs.Digits.{held_more, digits_more, digit_there, held_all}
use Rattle.text_words.proofs.numbers.number.Goals as goal

pub loop-byte-preserved : goal.loop-byte-preserved
loop-byte-preserved c =
    let there = digit_there c.args.base (get_or c.args.word.now c.loop-byte.byte-index 0) c.in_ok-digit.field-0 (sym c.digit.ensures ∙ c.in_ok-digit.was) in
    record {
      number = held_more (2 ^ 64 - 1) c.args.base c.args.word.now c.loop-byte.byte-index c.loop-byte.number c.in_ok-digit.field-0
          c.with_digit-number.result (omega arith) c.loop-byte-test.true c.loop-byte.invariant.number there.1 c.with_digit-number.ensures;
      digits = digits_more c.args.base c.args.word.now c.loop-byte.byte-index c.loop-byte.invariant.digits there.0;
    }

pub returns : goal.returns
returns c =
    held_all (2 ^ 64 - 1) c.args.base c.args.word.now c.loop-byte.byte-index c.loop-byte.number (omega arith)
    (λ e. let none : (length c.args.word.now == 0) ≡ true = ap (λ n. n == 0) e in let some : false ≡ (length c.args.word.now == 0) = c.if-is_empty.ensures in
    cc)
    c.loop-byte.invariant.number c.loop-byte.invariant.digits
