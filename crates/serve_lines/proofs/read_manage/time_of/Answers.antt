use Rattle.std.proofs.Common.{◌∙◌, sym, subst}
use Rattle.std.specs.Str.Parse.{ParsesUnsigned}
use Rattle.serve_lines.proofs.Times.{digits_are_text, time_is}
use Rattle.serve_lines.proofs.read_manage.time_of.Goals as goal

pub returns : goal.returns
returns c =
    c.ok.ensures.value
    ∙ time_is c.args.word.now c.parse.result (sym c.are_digits.ensures ∙ c.if-not-are_digits.false)
    (subst (λ text. ParsesUnsigned 64 10 text c.parse.result) c.in-Ok.ensures.cases.0 c.parse.ensures.value.0)

pub returns-in_default : goal.returns-in_default
returns-in_default c =
    absurd (c.in_default.ensures.cases.0 (digits_are_text c.args.word.now (sym c.are_digits.ensures ∙ c.if-not-are_digits.false)))
