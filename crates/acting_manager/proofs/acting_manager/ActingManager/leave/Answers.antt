use Rattle.std.proofs.Common.{◌≡◌, ◌∙◌, ap, subst}
use Rattle.std.specs.Prelude.{OnOk}
use Rattle.acting_manager.specs.Acting.{Acting, value_of}
use Rattle.acting_manager.specs.Working.{leaving, worked}
use Rattle.acting_manager.proofs.acting_manager.ActingManager.leave.Goals as goal

pub returns : goal.returns
returns c =
    subst (λ (a : Acting). OnOk c.work.result (value_of c.work.new.self ≡ worked a)) (c.in_ok-begin_to_leave.ensures ∙ ap leaving c.in_ok-tell_time.ensures)
    c.work.ensures
