-- The order of the numbers is their own.
use Rattle.std.proofs.Common.{◌∙◌, rules, sym}
use Rattle.sa_answers.specs.PathReply.{gives_both}
use Rattle.sa_answers.proofs.Choices.{suited}
use Rattle.sa_answers.proofs.path_reply.suits.Goals as goal

pub returns-else-not-gives_both : goal.returns-else-not-gives_both
returns-else-not-gives_both c =
    suited (gives_both c.args.mask c.args.bit) _ _ (sym c.gives_both.ensures ∙ c.if-not-gives_both.false)
    (c.is_selected.ensures (λ n. n) (search rules) (search rules))
