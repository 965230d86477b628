-- The LIDs so far.
use Rattle.std.proofs.Common.{◌≡◌}
use Rattle.fact_store.specs.View.{cells_of}
use Rattle.audit_channels.specs.Waiting.{IsAdded}
use Rattle.audit_channels.proofs.Waiting.{SoFar}
use Rattle.audit_channels.proofs.network_waits.channel_waits.Given as goal

abbrev pub invariant-loop-below : goal.invariant-loop-below
invariant-loop-below l = record {
  seen : l.cursor.seen ≡ l.fn.network;
  so_far : SoFar l.below (cells_of l.fn.network.facts) l.fn.network.held l.waits;
  added : IsAdded l.before.items l.waits;
}
