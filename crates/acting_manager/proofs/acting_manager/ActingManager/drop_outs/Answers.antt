use Rattle.std.proofs.Common.{◌≡◌, ◌∙◌, ap, arith, length}
use Rattle.acting_manager.specs.Acting.{value_of}
use Rattle.acting_manager.specs.Working.{out_dropped, repeated}
use Rattle.acting_manager.proofs.Repeating.{once_more}
use Rattle.acting_manager.proofs.acting_manager.ActingManager.drop_outs.Goals as goal

pub loop-preserved : goal.loop-preserved
loop-preserved c =
    once_more c.loop.counter out_dropped (value_of c.args.self.now) (value_of c.loop.self) (value_of c.drop_first_out.new.self) c.loop.invariant c.in_ok-drop_first_out.ensures

pub returns : goal.returns
returns c =
    let ended : c.loop.counter ≡ length (value_of c.args.self.now).window.outs =
    omega (arith, c.loop-test.false, c.loop.auto.counter-end, c.outs-count.ensures) in
    c.loop.invariant ∙ ap (λ n. repeated n out_dropped (value_of c.args.self.now)) ended
