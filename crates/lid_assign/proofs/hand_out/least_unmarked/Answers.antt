-- A range without a mark is the least, and others are passed.
use Rattle.std.proofs.Common.{arith, sym, ◌∙◌}
use Rattle.lid_assign.proofs.Passing.{next_multiple, past_marked, past_all}
use Rattle.lid_assign.proofs.hand_out.least_unmarked.Goals as goal

pub loop-next-init : goal.loop-next-init
loop-next-init c = (omega arith, c.requires.passed.aligned, c.requires.passed.near, λ d a b u. omega (arith, a, b))

pub loop-next-preserved : goal.loop-next-preserved
loop-next-preserved c =
    let i = c.loop-next.invariant in (
      omega (arith, i.0),
      next_multiple c.loop-next.next c.args.width c.requires.some i.1,
      omega arith,
      past_marked c.args.marks.now c.args.width c.args.next c.loop-next.next c.requires.some i.1 (sym c.any_marked.ensures ∙ c.if-not-any_marked.false) i.3,
    )

pub returns : goal.returns
returns c = past_all c.args.marks.now c.args.width c.args.next c.loop-next.next (omega arith) c.loop-next.invariant.3
