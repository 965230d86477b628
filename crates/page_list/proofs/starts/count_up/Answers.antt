-- A write of one more at the next index.
use Rattle.std.proofs.Common.{arith}
use Rattle.page_list.proofs.Shifts.{shift_step}
use Rattle.page_list.proofs.starts.count_up.Goals as goal

pub loop-i-preserved : goal.loop-i-preserved
loop-i-preserved c =
    shift_step c.args.numbers.now c.loop-i.numbers c.args.from c.loop-i.i c.loop-i.auto.i (omega (arith, c.loop-i-test.true, c.requires.until))
    c.loop-i.invariant
