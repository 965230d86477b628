use Rattle.fact_store.specs.View.{cells_of}
use Rattle.audit_counts.proofs.Surveyed.{AreCounted}
use Rattle.audit_counts.proofs.all_packets.add_packets.Given as goal

-- those of the end ports so far
abbrev pub invariant-loop-index : goal.invariant-loop-index
invariant-loop-index l = AreCounted (cells_of l.cursor.seen.facts) l.cursor.seen.held l.line l.fn.tally l.index l.tally
