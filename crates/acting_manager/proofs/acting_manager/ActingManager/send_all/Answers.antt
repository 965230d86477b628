use Rattle.std.proofs.Common.{◌≡◌, ◌∙◌, ap, arith}
use Rattle.request_window.specs.declared.limits.Limits.{Limits}
use Rattle.acting_manager.specs.Acting.{value_of}
use Rattle.acting_manager.specs.Working.{one_sent, repeated}
use Rattle.acting_manager.proofs.Repeating.{once_more}
use Rattle.acting_manager.proofs.acting_manager.ActingManager.send_all.Goals as goal

pub loop-preserved : goal.loop-preserved
loop-preserved c =
    once_more c.loop.counter one_sent (value_of c.args.self.now) (value_of c.loop.self) (value_of c.send_one.new.self) c.loop.invariant c.in_ok-send_one.ensures

pub returns : goal.returns
returns c =
    let ended : c.loop.counter ≡ (value_of c.args.self.now).window.limits.outstanding =
    omega (arith, c.loop-test.false, c.loop.auto.counter-end, ap (λ (l : Limits). l.outstanding) c.limits-count.ensures) in
    c.loop.invariant ∙ ap (λ n. repeated n one_sent (value_of c.args.self.now)) ended
