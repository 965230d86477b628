use Rattle.std.proofs.Common.{ℕ, List, ap, sym, ◌∙◌}
use Rattle.std.specs.Prelude.{Some}
use Rattle.plan_steps.specs.Carried.{carried_port}
use Rattle.plan_steps.proofs.carried.carried_port.Goals as goal

pub returns-in-Some : goal.returns-in-Some
returns-in-Some c =
    c.decode.ensures.value ∙ c.carried_port_of.ensures
    ∙ ap (λ (own : List ℕ). carried_port (Some (record { own = own; far = c.in-Some.read.far }))) c.encode.ensures.bytes
    ∙ ap carried_port (sym c.in-Some.is)
