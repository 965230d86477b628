-- The order of rates is that of what they are.
use Rattle.std.proofs.Common.{◌∙◌, rules, sym}
use Rattle.sa_answers.specs.PathReply.{gives_both}
use Rattle.sa_answers.specs.Rates.{rate_of_number}
use Rattle.sa_answers.proofs.Choices.{suited}
use Rattle.sa_answers.proofs.path_reply.suits_rate.Goals as goal

pub returns-else-not-gives_both : goal.returns-else-not-gives_both
returns-else-not-gives_both c =
    suited (gives_both c.args.mask c.args.bit) _ _ (sym c.gives_both.ensures ∙ c.if-not-gives_both.false)
    (c.is_selected.ensures rate_of_number (search rules) (search rules))
