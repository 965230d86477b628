use Rattle.updown_routes.proofs.RootByRoot.{AreRanksOf}
use Rattle.updown_routes.proofs.rank.ranks.Given as goal

-- the ranks that the roots so far give
abbrev pub invariant-loop-root : goal.invariant-loop-root
invariant-loop-root l = AreRanksOf l.graph l.root l.ranks.items
