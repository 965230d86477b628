use Rattle.std.proofs.Common.{◌≡◌, ℕ, []}
use Rattle.fact_store.specs.View.{cells_of}
use Rattle.audit_counts.specs.PacketTally.{IsTally}
use Rattle.audit_counts.proofs.Surveyed.{AreSurveyed}
use Rattle.audit_counts.proofs.ToldLines.{ToldSoFar}
use Rattle.audit_counts.proofs.all_packets.add_lines.Given as goal

-- the packets for the lines so far, and of which lines it is told that all arrive
abbrev pub invariant-loop-line : goal.invariant-loop-line
invariant-loop-line l = record {
  seen : l.cursor.seen ≡ l.fn.network;
  surveyed : (most : ℕ) → IsTally most [] l.fn.tally
      → AreSurveyed most (cells_of l.fn.network.facts) l.fn.network.held l.line-items l.line-index l.tally;
  told : ToldSoFar (cells_of l.fn.network.facts) l.fn.network.held l.line-items l.line-index l.told.items;
}
