-- The walks of a round are those of the round before, and further.
use Rattle.std.proofs.Common.{arith}
use Rattle.packet_walks.proofs.Further.{all_ended, all_going, fewer_left, going_further, same_ended}
use Rattle.packet_walks.proofs.ends_by_switch.ends.Goals as goal

pub loop-left-init : goal.loop-left-init
loop-left-init c = all_going c.args.steps.items c.len-left.result (omega (arith, c.args.steps.ok.0))

pub returns-then-now-left : goal.returns-then-now-left
returns-then-now-left c =
    same_ended c.args.steps.items c.loop-left.jumps.items c.go_further-now.new.jumps.items c.loop-left.left c.go_further-now.result c.loop-left.invariant
    c.go_further-now.ensures.further c.go_further-now.ensures.left c.if-now-left.true

pub loop-left-smaller : goal.loop-left-smaller
loop-left-smaller c =
    fewer_left c.args.steps.items c.loop-left.jumps.items c.go_further-now.new.jumps.items c.loop-left.left c.go_further-now.result c.loop-left.invariant
    c.go_further-now.ensures.further c.go_further-now.ensures.left c.if-now-left.false

pub loop-left-preserved : goal.loop-left-preserved
loop-left-preserved c =
    going_further c.args.steps.items c.loop-left.jumps.items c.go_further-now.new.jumps.items c.loop-left.left c.go_further-now.result c.loop-left.invariant
    c.go_further-now.ensures.further c.go_further-now.ensures.left

pub returns : goal.returns
returns c = all_ended c.args.steps.items c.loop-left.jumps.items c.loop-left.left c.loop-left.invariant (omega arith)
