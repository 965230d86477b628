-- The LIDs so far.
use Rattle.std.proofs.Common.{◌≡◌}
use Rattle.fact_store.specs.View.{cells_of}
use Rattle.audit_ways.specs.SenderGroups.{AreGrouped, adapters}
use Rattle.audit_ways.proofs.Surveyed.{AreSurveyed}
use Rattle.audit_ways.proofs.way_figures.tally_of.Given as goal

abbrev pub invariant-loop-index : goal.invariant-loop-index
invariant-loop-index l = record {
  seen : l.cursor.seen ≡ l.fn.network;
  surveyed : AreSurveyed (cells_of l.fn.network.facts) l.fn.network.held l.line-items l.index l.tally;
  grouped : AreGrouped (cells_of l.fn.network.facts) (adapters (cells_of l.fn.network.facts)) l.senders;
}
