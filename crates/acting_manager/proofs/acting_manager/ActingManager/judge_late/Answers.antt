use Rattle.std.proofs.Common.{◌≡◌, ◌∙◌, ap, arith, length}
use Rattle.acting_manager.specs.Acting.{value_of}
use Rattle.acting_manager.specs.Working.{one_overdue, repeated}
use Rattle.acting_manager.proofs.Repeating.{once_more}
use Rattle.acting_manager.proofs.acting_manager.ActingManager.judge_late.Goals as goal

pub loop-preserved : goal.loop-preserved
loop-preserved c =
    once_more c.loop.counter one_overdue (value_of c.args.self.now) (value_of c.loop.self) (value_of c.judge_one_late.new.self) c.loop.invariant c.in_ok-judge_one_late.ensures

pub returns : goal.returns
returns c =
    let ended : c.loop.counter ≡ length (value_of c.args.self.now).window.outs =
    omega (arith, c.loop-test.false, c.loop.auto.counter-end, c.outs-count.ensures) in
    c.loop.invariant ∙ ap (λ n. repeated n one_overdue (value_of c.args.self.now)) ended
