use Rattle.std.proofs.Common.{◌≡◌, ◌∙◌, ap, arith, length}
use Rattle.acting_manager.specs.Acting.{value_of}
use Rattle.acting_manager.specs.Working.{queued_dropped, repeated}
use Rattle.acting_manager.proofs.Repeating.{once_more}
use Rattle.acting_manager.proofs.acting_manager.ActingManager.drop_queued.Goals as goal

pub loop-preserved : goal.loop-preserved
loop-preserved c =
    once_more c.loop.counter queued_dropped (value_of c.args.self.now) (value_of c.loop.self) (value_of c.drop_first_queued.new.self) c.loop.invariant c.in_ok-drop_first_queued.ensures

pub returns : goal.returns
returns c =
    let ended : c.loop.counter ≡ length (value_of c.args.self.now).window.queued =
    omega (arith, c.loop-test.false, c.loop.auto.counter-end, c.queued-count.ensures) in
    c.loop.invariant ∙ ap (λ n. repeated n queued_dropped (value_of c.args.self.now)) ended
