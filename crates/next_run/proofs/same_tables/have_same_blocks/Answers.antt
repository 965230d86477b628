use Rattle.next_run.proofs.Same.{same_lists, same_blocks}
use Rattle.next_run.proofs.same_tables.have_same_blocks.Goals as goal

pub returns : goal.returns
returns c = same_lists _ same_blocks c.args.one.now c.args.other.now c.eq.result c.eq.ensures
