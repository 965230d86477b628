use Rattle.held_tables.proofs.Chained.{ChainedFrom}
use Rattle.held_tables.proofs.chains.chains_of.Given as goal

abbrev pub invariant-loop-index : goal.invariant-loop-index
invariant-loop-index l = ChainedFrom l.numbers l.index l.firsts.items l.nexts.items

abbrev pub decreases-loop-index : goal.decreases-loop-index
decreases-loop-index l = l.index
