use Rattle.std.proofs.Common.{ℕ, List, ap, sym, ◌∙◌}
use Rattle.std.specs.Prelude.{Some}
use Rattle.plan_steps.specs.Carried.{carried_switch}
use Rattle.plan_steps.proofs.carried.carried_switch.Goals as goal

pub returns-in-Some : goal.returns-in-Some
returns-in-Some c =
    c.carried_switch_of.ensures ∙ ap (λ (bytes : List ℕ). carried_switch (Some bytes)) c.encode.ensures.bytes ∙ ap carried_switch (sym c.in-Some.is)
