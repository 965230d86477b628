use Rattle.std.proofs.Common.{◌≡◌, ◌∙◌, ap, subst}
use Rattle.std.specs.Prelude.{OnOk}
use Rattle.acting_manager.specs.Acting.{Acting, value_of}
use Rattle.acting_manager.specs.Working.{wanting_now, worked}
use Rattle.acting_manager.proofs.acting_manager.ActingManager.look.Goals as goal

pub returns : goal.returns
returns c =
    subst (λ (a : Acting). OnOk c.work.result (value_of c.work.new.self ≡ worked a)) ((λ i. record (value_of c.tell_time.new.self) { policy = c.want.ensures i }) ∙ ap wanting_now c.in_ok-tell_time.ensures)
    c.work.ensures
