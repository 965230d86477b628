use Rattle.subnet_view.proofs.FoundRoots.{AreRootsOf}
use Rattle.subnet_view.proofs.root.roots.Given as goal

-- the roots among the switches so far
abbrev pub invariant-loop-index : goal.invariant-loop-index
invariant-loop-index l = AreRootsOf l.graph l.index l.roots.items
