-- All before the lower end come before the GUID and the port, and none from the upper end on does.
use Rattle.std.proofs.Common.{◌≡◌, ◌≤◌, ◌-◌, true, false, length}
use Rattle.std.specs.List.{AllWithin}
use Rattle.sweep.specs.Order.{is_before}
use Rattle.sweep.proofs.port_list.index_for.Given as goal

abbrev pub invariant-loop-low : goal.invariant-loop-low
invariant-loop-low g l =
    record {
      ends : l.low ≤ l.high;
      within : l.high ≤ length l.items.items;
      below : AllWithin (λ x. is_before (g.T.OfPort.key x) (l.guid, l.port) ≡ true) l.items.items 0 l.low;
      above : AllWithin (λ x. is_before (g.T.OfPort.key x) (l.guid, l.port) ≡ false) l.items.items l.high (length l.items.items);
    }

abbrev pub decreases-loop-low : goal.decreases-loop-low
decreases-loop-low g l = l.high - l.low
