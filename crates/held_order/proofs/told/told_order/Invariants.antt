-- Those that were taken so far, and the next one.
use Rattle.std.proofs.Common.{◌≡◌, length}
use Rattle.fact_store.specs.View.{cells_of}
use Rattle.subnet_view.specs.Reading.{switches}
use Rattle.held_order.specs.LastByTurns.{IsNextBy}
use Rattle.held_order.specs.ToldOrder.{AreTaken, all_left}
use Rattle.held_order.specs.Turns.{AreTurns, lists_of}
use Rattle.held_order.proofs.ToldOrders.{lefts}
use Rattle.held_order.proofs.told.told_order.Given as goal

abbrev pub invariant-loop-next : goal.invariant-loop-next
invariant-loop-next l = record {
  turns_are : AreTurns (cells_of l.network.facts) l.network.held (lists_of l.turns.items);
  taken_are : AreTaken (cells_of l.network.facts) l.network.held l.preferred (all_left (cells_of l.network.facts)) l.taken.items l.left.items;
  next_is : IsNextBy (lists_of l.turns.items) l.preferred l.left.items l.next;
  long : length l.left.items ≡ length (switches (cells_of l.network.facts));
}

abbrev pub decreases-loop-next : goal.decreases-loop-next
decreases-loop-next l = lefts l.left.items
