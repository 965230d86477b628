-- The numbers so far, and the channels without a number, of which some are free.
use Rattle.std.proofs.Common.{◌≡◌, length}
use Rattle.std.specs.Prelude.{filter}
use Rattle.audit_channels.specs.Numbers.{is_free}
use Rattle.audit_channels.proofs.Given.{SoFar}
use Rattle.audit_channels.proofs.numbers.numbers.Given as goal

abbrev pub invariant-loop-numbers : goal.invariant-loop-numbers
invariant-loop-numbers l = record {
  so_far : SoFar l.waits l.numbers.items l.left.items;
  free_is : l.free.items ≡ filter (is_free l.waits l.numbers.items) l.left.items;
}

abbrev pub decreases-loop-numbers : goal.decreases-loop-numbers
decreases-loop-numbers l = length l.left.items
