-- The channels so far.
use Rattle.fact_store.specs.View.{cells_of}
use Rattle.audit_ways.proofs.Loads.{LoadsSoFar}
use Rattle.audit_ways.proofs.way_figures.loads_of.Given as goal

abbrev pub invariant-loop-channel : goal.invariant-loop-channel
invariant-loop-channel l = LoadsSoFar (cells_of l.network.facts) l.loads l.channel l.total
