-- None of those that stand behind may be the last.
use Rattle.held_order.specs.LastByTurns.{NoneFromBy}
use Rattle.held_order.specs.Turns.{lists_of}
use Rattle.held_order.proofs.last_by_turns.last_of.Given as goal

abbrev pub invariant-loop-index : goal.invariant-loop-index
invariant-loop-index l = NoneFromBy (lists_of l.turns) l.preferred l.left l.index
