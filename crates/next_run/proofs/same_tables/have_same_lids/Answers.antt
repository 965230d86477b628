use Rattle.next_run.proofs.Same.{same_lists, same_lids}
use Rattle.next_run.proofs.same_tables.have_same_lids.Goals as goal

pub returns : goal.returns
returns c = same_lists _ same_lids c.args.one.now c.args.other.now c.eq.result c.eq.ensures
