use Rattle.std.proofs.Common.{◌≡◌, subst}
use Rattle.std.specs.Prelude.{OnOk}
use Rattle.acting_manager.specs.Acting.{Acting, value_of}
use Rattle.acting_manager.specs.Working.{worked}
use Rattle.acting_manager.proofs.acting_manager.ActingManager.handle_time.Goals as goal

pub returns : goal.returns
returns c =
    subst (λ (a : Acting). OnOk c.work.result (value_of c.work.new.self ≡ worked a)) (c.in_ok-tell_time.ensures)
    c.work.ensures
