-- The last digit behind the others.
use Rattle.std.proofs.Common.{[], ◌∷◌, ◌++◌, sym, ap, ◌∙◌}
use Rattle.schedule_file.proofs.Serials.{front_over, last_added}
use Rattle.schedule_file.proofs.numbers.serial.Goals as goal

pub returns-in_err-tens : goal.returns-in_err-tens
returns-in_err-tens c =
    let front = c.in_ok-last.front.now in
    c.from_residual-in_err-tens.ensures ∙ sym (front_over c.args.word.now front c.from.result c.in_ok-number.field-0
    (c.in_ok-last.ensures.cases.0 ∙ ap (λ b. front ++ b ∷ []) (sym c.from.ensures))
    (sym c.in_ok-number.was ∙ c.number.ensures) c.in_ok-digit.ensures.value.0 c.in_err-tens.ensures)

pub returns : goal.returns
returns c =
    let front = c.in_ok-last.front.now in
    last_added c.args.word.now front c.from.result c.from-2.result c.in_ok-number.field-0 c.in_ok-tens.tens c.checked_add.result
    (c.in_ok-last.ensures.cases.0 ∙ ap (λ b. front ++ b ∷ []) (sym c.from.ensures))
    (sym c.in_ok-number.was ∙ c.number.ensures) c.in_ok-digit.ensures.value.0 (c.from-2.ensures ∙ c.in_ok-digit.ensures.value.1)
    c.in_ok-tens.ensures.1 c.in_ok-tens.ensures.0 c.checked_add.ensures
