-- What was found is passed once it is marked.
use Rattle.lid_assign.proofs.Passing.{least_from_0, passed_found}
use Rattle.lid_assign.proofs.hand_out.take_from.Goals as goal

pub returns-clause-passed : goal.returns-clause-passed
returns-clause-passed c =
    passed_found c.args.taken.now c.mark.new.marks c.args.width c.in_ok-first.first c.requires.some c.mark.ensures
    (least_from_0 c.args.taken.now c.args.width c.args.next.now c.in_ok-first.first c.requires.passed.none_before c.in_ok-first.ensures)
