-- What the store tells is the greatest generation held.
use Rattle.std.proofs.Common.{ap, ◌∙◌}
use Rattle.std.specs.Prelude.{None, Some}
use Rattle.sm_manager.specs.Manager.{Manager, newest_held}
use Rattle.sm_manager.proofs.Newest.{newest_told}
use Rattle.sm_manager.proofs.manager.Manager.newest_held.Goals as goal

pub returns-in-None : goal.returns-in-None
returns-in-None c =
    newest_told c.self.inside.store None c.in-None.ensures.none c.in-None.ensures.newest ∙ ap (λ (m : Manager). newest_held m.store) c.self.view_is

pub returns-in-Some : goal.returns-in-Some
returns-in-Some c =
    c.number.ensures.value ∙ newest_told c.self.inside.store (Some c.in-Some.newest) c.in-Some.ensures.none c.in-Some.ensures.newest
    ∙ ap (λ (m : Manager). newest_held m.store) c.self.view_is
