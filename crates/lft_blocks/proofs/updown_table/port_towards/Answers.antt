use Rattle.std.proofs.Common.{ap, ◌∙◌}
use Rattle.std.specs.Prelude.{unwrap_or}
use Rattle.lft_blocks.proofs.updown_table.port_towards.Goals as goal

pub returns-in-Some : goal.returns-in-Some
returns-in-Some c = c.number.ensures ∙ ap (λ o. unwrap_or o 255) c.in-Some.ensures

pub returns-in-None : goal.returns-in-None
returns-in-None c = ap (λ o. unwrap_or o 255) c.in-None.ensures
