use Rattle.std.proofs.Common.{drop}
use Rattle.fact_store.specs.View.{cells_of}
use Rattle.lid_assign.proofs.Keeping.{IsKeeping}
use Rattle.lid_assign.proofs.keep_claims.keep_claims.Given as goal

-- what is kept so far, and what the rest will keep
abbrev pub invariant-loop-port : goal.invariant-loop-port
invariant-loop-port l = IsKeeping l.lmc (cells_of l.store) l.keepers.items (drop l.port-index l.ports) l.claimed l.taken
