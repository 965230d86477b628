-- Each step is one of those that are left.
use Rattle.std.proofs.Common.{◌≡◌, ◌+◌, ◌-◌, suc, sym, ◌∙◌, arith, length}
use Rattle.sa_answers.specs.Told.{value_of}
use Rattle.sa_answers.proofs.Following.{ended, went_on}
use Rattle.sa_answers.proofs.way.bound_of_way.Goals as goal

pub returns-in-Ends : goal.returns-in-Ends
returns-in-Ends c =
    let left = length c.switches.result.now + 2 - c.loop.counter in
    let then_left = length c.switches.result.now + 2 - (c.loop.counter + 1) in
    let more : left ≡ suc then_left = omega (arith, c.loop-test.true) in
    ended (value_of c.args.told.now) c.args.lid c.args.owner.now c.loop.at c.loop.by_wire c.loop.least _ left then_left c.in-Ends.outcome
    more c.loop.invariant (sym c.take_step.ensures ∙ c.in-Ends.is)

pub loop-preserved : goal.loop-preserved
loop-preserved c =
    let left = length c.switches.result.now + 2 - c.loop.counter in
    let then_left = length c.switches.result.now + 2 - (c.loop.counter + 1) in
    let more : left ≡ suc then_left = omega (arith, c.loop-test.true) in
    went_on (value_of c.args.told.now) c.args.lid c.args.owner.now c.loop.at c.loop.by_wire c.loop.least _ left then_left c.in-Goes.into c.in-Goes.less
    more c.loop.invariant (sym c.take_step.ensures ∙ c.in-Goes.is)
