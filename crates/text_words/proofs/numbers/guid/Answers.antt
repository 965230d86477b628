-- Sixteen digits and no more.
use Rattle.std.proofs.Common.{Some, arith, sym, ap, ◌∙◌}
use Rattle.text_words.proofs.Digits.{guid_is}
use Rattle.text_words.proofs.numbers.guid.Goals as goal

pub returns : goal.returns
returns c =
    let h = c.in_ok-digits.ensures.cases in
    ap Some c.new.ensures
    ∙ guid_is c.args.word.now c.in_ok-digits.digits.now c.in_ok-number.field-0 h.0 h.1 h.2 (omega arith) (sym c.in_ok-number.was ∙ c.number.ensures)
