-- The turns so far.
use Rattle.std.proofs.Common.{◌≡◌, length}
use Rattle.std.specs.Prelude.{take}
use Rattle.fact_store.specs.View.{cells_of}
use Rattle.subnet_view.specs.Reading.{switches}
use Rattle.held_order.specs.Turns.{IsWithTurns, lists_of}
use Rattle.held_order.proofs.turns.add_turns.Given as goal

abbrev pub invariant-loop-next : goal.invariant-loop-next
invariant-loop-next l = record {
  with : IsWithTurns (cells_of l.network.facts) l.channel (take l.next-index l.following) (lists_of l.fn.turns) (lists_of l.turns);
  long : length l.turns ≡ length (switches (cells_of l.network.facts));
}
