use Rattle.std.proofs.Common.{◌≡◌, ◌∙◌, ap, subst}
use Rattle.std.specs.Prelude.{OnOk}
use Rattle.acting_manager.specs.Acting.{Acting, value_of}
use Rattle.acting_manager.specs.Heard.{heard}
use Rattle.acting_manager.specs.Working.{worked}
use Rattle.acting_manager.proofs.acting_manager.ActingManager.handle_packet.Goals as goal

pub returns : goal.returns
returns c =
    subst (λ (a : Acting). OnOk c.work.result (value_of c.work.new.self ≡ worked a)) (c.in_ok-hear.ensures ∙ ap (heard c.args.bytes.now c.args.from) c.in_ok-tell_time.ensures)
    c.work.ensures
