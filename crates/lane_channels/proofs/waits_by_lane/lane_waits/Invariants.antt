-- The LIDs so far.
use Rattle.std.specs.Prelude.{◌≡◌, []}
use Rattle.lane_channels.specs.Visit.{walked}
use Rattle.lane_channels.proofs.LidWaits.{SoFar}
use Rattle.lane_channels.proofs.waits_by_lane.lane_waits.Given as goal

abbrev pub invariant-loop-below : goal.invariant-loop-below
invariant-loop-below l = record {
  seen : l.cursor.seen ≡ l.by_lane.seen;
  so_far : SoFar l.by_lane [] l.answers l.below (walked l.walks);
}
